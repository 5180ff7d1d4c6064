-- What holds of a tool's run: each part is a promise.
use Rattle.std.specs.Prelude.{◌≡◌, ◌⊎◌, ◌++◌, ℕ, true, List, None}
use Rattle.link_traits.specs.Told.{ReadFront}
use Rattle.link_traits.specs.Views.{FilesView, SinkView, FilesRose, SinkRose}
use Rattle.proxy_main.specs.Words.{reading}
use Rattle.proxy_main.specs.Answers.{answer_of, IsSettled, HasCode, may_log}
use Rattle.proxy_main.specs.Loads.{IsDone, IsFront, IsLogged, IsComparison, IsEnd, IsSuggest}
use Rattle.proxy_main.specs.FilesRead.{paths_of, policies_of, needed, ToolReads}
use Rattle.proxy_main.specs.Endings.{Ends, ErrFront, Exactly, ExactlyOfFiles, ExactlyOfWork, IsFree}

-- Of a run of the words of these texts: by the files, out and err before the run and, with a prime, after it, and by
-- the status.
pub record ToolRun (texts : List (List ℕ)) (files files' : FilesView) (out out' err err' : SinkView) (code : ℕ) : Type 0 where
  -- It ends in one of six ways, each with its cause and with what out and err got.
  pub ends : Ends (reading texts) files files' out out' err err' code
  -- 1 comes exactly if the words aren't the tool's.
  pub usage : Exactly code 1 (reading texts ≡ None)
  -- 2 comes exactly if a policy file is refused, and 3 exactly if a recording, or the file of a message or of a
  -- text, is.
  pub policy : IsSettled (answer_of texts files.told) → ExactlyOfFiles code 2 (HasCode (answer_of texts files.told) 2)
  pub recording : IsSettled (answer_of texts files.told) → ExactlyOfFiles code 3 (HasCode (answer_of texts files.told) 3)
  -- 9 comes exactly if the recording has no message, or no session, of the number.
  pub missing : IsSettled (answer_of texts files.told) → ExactlyOfFiles code 9 (HasCode (answer_of texts files.told) 9)
  -- 0 comes exactly if the answer is a whole output, two recordings are the same to the policy, or a policy is
  -- within another. 7 comes exactly if the recordings differ, the policy is not within the other, or a policy that
  -- is asked for would have too many entries.
  pub whole : IsSettled (answer_of texts files.told) → ExactlyOfWork code 0 (HasCode (answer_of texts files.told) 0)
  pub differ : IsSettled (answer_of texts files.told) → ExactlyOfWork code 7 (HasCode (answer_of texts files.told) 7)
  pub answers_no : code ≡ 7 → IsComparison (reading texts) ⊎ IsSuggest (reading texts)
  -- 4 comes only where the files failed, and 6 only where out did, or where err did and there may be a log.
  pub file : code ≡ 4 → FilesRose files files'
  pub sink : code ≡ 6 → SinkRose out out' ⊎ ((may_log files.told (reading texts) ≡ true) × SinkRose err err')
  -- Unless a file, out, err or memory fails, the status is the answer's.
  pub complete : IsSettled (answer_of texts files.told) → HasCode (answer_of texts files.told) code ⊎ IsFree code
  -- With 0, and with 7 of a comparison, out got the whole output, and err got the whole log and nothing else. With 0,
  -- two recordings that were compared give out the same bytes.
  pub done : IsEnd (reading texts) code → IsDone (answer_of texts files.told) out.told out'.told code × IsLogged files.told (reading texts) err.told err'.told
  -- In any case out got nothing or a prefix of the output, and nothing with another status than 0, 6 and a comparison's
  -- 7.
  pub front : (out'.told ≡ out.told) ⊎ IsFront (answer_of texts files.told) out.told out'.told
  pub nothing : IsEnd (reading texts) code ⊎ ((code ≡ 6) ⊎ (out'.told ≡ out.told))
  -- The log is first: out got nothing unless err has the whole log and nothing else.
  pub first : (out'.told ≡ out.told) ⊎ IsLogged files.told (reading texts) err.told err'.told
  -- In any case err got a prefix of the log, and then a prefix of the status's line.
  pub said : ErrFront files.told (reading texts) err.told err'.told code
  -- No file was read beside those that the words name: a prefix of these, each once and in their order.
  pub reads_named : ToolReads (policies_of (reading texts)) (paths_of (reading texts)) files.reads files'.reads (SinkRose err err') err.told err'.told code
  -- No file was read after one that is bad, by what is told of the files. Where that settles the answer, exactly those
  -- were read that it needs, unless a file failed or memory ran out.
  pub reads_needed : ReadFront (needed files.told (reading texts)) files.reads files'.reads
  pub reads_exactly : IsSettled (answer_of texts files.told) → (files'.reads ≡ files.reads ++ needed files.told (reading texts)) ⊎ ((code ≡ 4) ⊎ (code ≡ 8))
