-- What holds of the run of a proxy line.
--
--     0    nothing is left to be served, and what was to be recorded was
--     1    a word is bad, or a file of words is above its limit
--     2    a word is bad as one of a policy file is
--     4    a file of words could not be read, or the file of a recording could not be made or written
--     5    the net could not listen, wait, or take the line's setting
--     8    memory ran out
use Rattle.std.specs.Prelude.{◌≡◌, ◌≢◌, ◌⊎◌, ◌++◌, ◌||◌, ℕ, Bool, true, false, List, [], Option, Some, None, is_some, Ok, Err, string_bytes}
use Rattle.link_traits.specs.Told.{ReadFront}
use Rattle.link_traits.specs.Views.{FilesView, FilesRose, SinkView, SinkRose, NetView, Adds, KeepsWishes, RoseAt}
use Rattle.link_traits.specs.declared.links.NetFault.{NetFault}
use Rattle.link_traits.specs.declared.links.NetFault.TheVariants.{Failed as NotTaken, Memory as NoNetMemory}
use Rattle.link_traits.specs.declared.links.Setting.{Setting}
use Rattle.link_traits.specs.declared.links.Count.TheVariants.{Own as OfNet}
use Rattle.link_traits.specs.declared.outside.FileFault.{FileFault}
use Rattle.link_traits.specs.declared.outside.FileFault.TheVariants.{Failed, TooLong as NoRoom, Memory as NoFileMemory}
use Rattle.policy_args.specs.declared.line.Block.{Block}
use Rattle.policy_args.specs.declared.line.ProxyLine.{ProxyLine}
use Rattle.policy_args.specs.Reading.{line_seen}
use Rattle.proxy_loop.specs.declared.turns.ServerEnd.TheVariants.{Listen, Wait, Memory}
use Rattle.proxy_run.specs.Runs.{RunEnd, RunDid, RunLinks}
use Rattle.proxy_run.specs.Logs.{RunLogs}
use Rattle.recorded_run.specs.Recordings.{FitsFormat, IsExact, IsReadBack, TellsHistories}
use Rattle.recorded_run.specs.Runs.{RunAdded, FromNoSessions, LinksRecorded, LinksReplayed}
use Rattle.line_words.specs.Words.{Line, Untold, TooLong, Bad, Reads, line_in}
use Rattle.line_words.specs.Stops.{IsSettled, Agrees, without}
use Rattle.line_words.specs.FilesRead.{paths_in, needed_by}
use Rattle.line_words.specs.declared.reading.LineStop.{LineStop}
use Rattle.line_words.specs.declared.reading.LineStop.TheVariants as line_stop
use Rattle.proxy_main.specs.declared.Stop.{Stop}
use Rattle.proxy_main.specs.declared.Stop.TheVariants as run_stop
use Rattle.proxy_main.specs.declared.Refusal.{Refusal}
use Rattle.proxy_main.specs.declared.Refusal.TheVariants.{LineWord, ArgsTooLong}
use Rattle.proxy_main.specs.Answers.{refusal_code}
use Rattle.proxy_main.specs.Lines.{refusal_line, file_line, memory_line, listen_line, wait_line, setting_line}
use Rattle.proxy_main.specs.Endings.{Said, IsTold, IsStopOf, ExactlyOfFiles}
use Rattle.proxy_main.specs.FilesRead.{LineReads}

-- ---- the words

-- why the words are refused, if they are
abbrev pub refusal_of : Line → Option Refusal
refusal_of Untold = None
refusal_of TooLong = Some ArgsTooLong
refusal_of (Bad bad) = Some (LineWord bad)
refusal_of (Reads line) = None

-- what is told of the files settles that the words are refused so
abbrev pub RefusedBy : Line → Refusal → Type 0
RefusedBy line refusal = IsSettled line → refusal_of line ≡ Some refusal

abbrev pub code_by : Option Refusal → ℕ
code_by None = 0
code_by (Some refusal) = refusal_code refusal

-- the status of words
abbrev pub words_code : Line → ℕ
words_code line = code_by (refusal_of line)

-- why words give no line is why the run stops
abbrev pub IsToldAs : LineStop → Stop → Type 0
IsToldAs (line_stop.File path) stop = IsStopOf (string_bytes path) stop
IsToldAs line_stop.TooLong stop = stop ≡ run_stop.Refused ArgsTooLong
IsToldAs (line_stop.Bad bad) stop = stop ≡ run_stop.Refused (LineWord bad)
IsToldAs line_stop.Memory stop = stop ≡ run_stop.Memory

-- ---- the net's setting

-- what a line asks of its net beside carrying links
abbrev pub setting_of : ProxyLine → Setting
setting_of line = record { replaces = line.replaces; starter = line.starter }

-- whether it asks for any of that: --replace or --fd was among its words
abbrev pub asks_setting : ProxyLine → Bool
asks_setting line = line.replaces || is_some line.starter

-- a net with a view is what a prepare of another with a setting made of it
abbrev pub MadeBy : {N : Type 0} → (N → NetView) → (N → Setting → N → Type 0) → N → Setting → NetView → Type 0
MadeBy {N = N} view takes old setting after = (new : N) × takes old setting new × (view new ≡ after)

-- What was done to the net before anything was recorded or listened at. A line without --replace and --fd left it as it
-- was. For any other line it took the line's setting: nothing was added to its journal, and the wishes of its links are
-- as before.
pub record Prepared (made : Setting → NetView → Type 0) (line : ProxyLine) (before after : NetView) : Type 0 where
  pub unasked : asks_setting line ≡ false → after ≡ before
  pub taken : asks_setting line ≡ true → made (setting_of line) after
  pub told : Adds before after []
  pub wishes : KeepsWishes before after

-- The net didn't take the line's setting, and nothing else was done over it: nothing was added to its journal, and the
-- wishes of its links are as before. Its own count rose, or memory ran out.
pub record Unprepared (line : ProxyLine) (err_rose : Type 0) (before after : NetView) (first last : SinkView) (code : ℕ) : Type 0 where
  pub asked : asks_setting line ≡ true
  pub told : Adds before after []
  pub wishes : KeepsWishes before after
  pub said : ((code ≡ 5) × (RoseAt OfNet before after × Said err_rose first.told last.told setting_line)) ⊎ ((code ≡ 8) × Said err_rose first.told last.told memory_line)

-- ---- the run

-- A run of a line: listening, and turns; what was written to each link, and to the log; the net's own count rose if
-- listening or waiting failed.
pub record ServedBy (blocks : List Block) (limit : ℕ) (before after : NetView) (first last : SinkView) (end : RunEnd) : Type 0 where
  pub did : RunDid blocks limit before after first last end
  pub links : RunLinks blocks before after
  pub log : RunLogs blocks before after first last
  pub listen : (k : ℕ) → end ≡ Err (Listen k) → RoseAt OfNet before after
  pub wait : end ≡ Err Wait → RoseAt OfNet before after

abbrev pub Served : ProxyLine → NetView → NetView → SinkView → SinkView → RunEnd → Type 0
Served line before after first last end = ServedBy line.blocks.items line.sessions before after first last end

-- the status of a server's end, and the line that is said
abbrev pub EndSaid : Type 0 → SinkView → SinkView → ℕ → RunEnd → Type 0
EndSaid rose first last code (Ok done) = (code ≡ 0) × (last ≡ first)
EndSaid rose first last code (Err (Listen k)) = (code ≡ 5) × Said rose first.told last.told listen_line
EndSaid rose first last code (Err Wait) = (code ≡ 5) × Said rose first.told last.told wait_line
EndSaid rose first last code (Err Memory) = (code ≡ 8) × Said rose first.told last.told memory_line

-- the status of a net that didn't take a setting, and the line that is said
abbrev pub SettingSaid : Type 0 → SinkView → SinkView → ℕ → NetFault → Type 0
SettingSaid rose first last code NotTaken = (code ≡ 5) × Said rose first.told last.told setting_line
SettingSaid rose first last code NoNetMemory = (code ≡ 8) × Said rose first.told last.told memory_line

-- ---- a recording

-- the path of the file in which the sessions of a line are recorded, if they are
abbrev pub record_path : ProxyLine → Option (List ℕ)
record_path line = (line_seen line).record_to

-- What the file of a recording holds, and what it tells, of what the net added to its journal in the run. While no
-- append failed it is the recording of that. A file can have its records, and a reader finds them in it. It tells the
-- history of each session, and so what was written to its links.
pub record FileRecorded (blocks : List Block) (before after : NetView) (file : Option (List ℕ)) (failed : Option FileFault) : Type 0 where
  pub exact : RunAdded before after (λ was since. IsExact file failed since)
  pub fits : RunAdded before after (FromNoSessions FitsFormat)
  pub read : RunAdded before after (FromNoSessions (IsReadBack file failed))
  pub histories : RunAdded before after (λ was since. FromNoSessions (TellsHistories was) was since)
  pub links : RunAdded before after (LinksRecorded blocks)
  pub replayed : RunAdded before after (LinksReplayed blocks)

-- the status of a server that is done, and the line that is said, by the first append that failed
abbrev pub TapeSaid : Type 0 → SinkView → SinkView → ℕ → List ℕ → Option FileFault → Type 0
TapeSaid rose first last code path None = (code ≡ 0) × (last ≡ first)
TapeSaid rose first last code path (Some Failed) = IsTold 4 (file_line path) rose first.told last.told code
TapeSaid rose first last code path (Some NoRoom) = IsTold 4 (file_line path) rose first.told last.told code
TapeSaid rose first last code path (Some NoFileMemory) = (code ≡ 8) × Said rose first.told last.told memory_line

-- .. and of a server that ended otherwise, too
abbrev pub RecordSaid : Type 0 → SinkView → SinkView → ℕ → List ℕ → RunEnd → Option FileFault → Type 0
RecordSaid rose first last code path (Ok done) failed = TapeSaid rose first last code path failed
RecordSaid rose first last code path (Err why) failed = EndSaid rose first last code (Err why)

-- ---- a line

-- How a line was run that is recorded in the file of a path, by what each path holds then. What the log got of it comes
-- before the status's line.
pub data RecordRan (blocks : List Block) (limit : ℕ) (path : List ℕ) (new_told : List ℕ → Option (List ℕ)) (files_rose err_rose : Type 0) (before after : NetView) (first last : SinkView) (code : ℕ) : Type 0 where
  -- it was served while its net was recorded; an append failed only where the files failed
  Recorded : (end : RunEnd) (failed : Option FileFault) (mid : SinkView) → ServedBy blocks limit before after first mid end
      → FileRecorded blocks before after (new_told path) failed
      → (failed ≡ Some Failed → files_rose) → failed ≢ Some NoRoom
      → RecordSaid err_rose mid last code path end failed
      → RecordRan blocks limit path new_told files_rose err_rose before after first last code
  -- the file failed as it was made, and nothing was done over the net
  Unmade : code ≡ 4 → files_rose → after ≡ before → Said err_rose first.told last.told (file_line path)
      → RecordRan blocks limit path new_told files_rose err_rose before after first last code
  -- memory ran out before anything was done over the net
  Unstarted : code ≡ 8 → after ≡ before → Said err_rose first.told last.told memory_line
      → RecordRan blocks limit path new_told files_rose err_rose before after first last code

-- how a line was run, recorded or not
pub data LineRan (line : ProxyLine) (new_told : List ℕ → Option (List ℕ)) (files_rose err_rose : Type 0) (before after : NetView) (first last : SinkView) (code : ℕ) : Type 0 where
  Plain : record_path line ≡ None → (end : RunEnd) (mid : SinkView) → Served line before after first mid end
      → EndSaid err_rose mid last code end → LineRan line new_told files_rose err_rose before after first last code
  Records : (path : List ℕ) → record_path line ≡ Some path
      → RecordRan line.blocks.items line.sessions path new_told files_rose err_rose before after first last code
      → LineRan line new_told files_rose err_rose before after first last code

-- how a line went over a net: it was run, once the net had taken its setting, or the net didn't take that
pub data LineWent (made : Setting → NetView → Type 0) (line : ProxyLine) (new_told : List ℕ → Option (List ℕ)) (files_rose err_rose : Type 0) (before after : NetView) (first last : SinkView) (code : ℕ) : Type 0 where
  Ran : (mid : NetView) → Prepared made line before mid → LineRan line new_told files_rose err_rose mid after first last code
      → LineWent made line new_told files_rose err_rose before after first last code
  Untaken : Unprepared line err_rose before after first last code
      → LineWent made line new_told files_rose err_rose before after first last code

-- the words gave this line, which was run over the net as it was prepared
pub record LineServed (made : Setting → NetView → Type 0) (texts : List (List ℕ)) (files files' : FilesView) (net net' : NetView) (err err' : SinkView) (code : ℕ) : Type 0 where
  pub line : ProxyLine
  pub read : Agrees (line_in files.told texts) (Reads (line_seen line))
  pub mid : NetView
  pub prepared : Prepared made line net mid
  pub ran : LineRan line files'.told (FilesRose files files') (SinkRose err err') mid net' err err' code

-- the words gave this line, whose setting the net didn't take
pub record LineUntaken (texts : List (List ℕ)) (files : FilesView) (net net' : NetView) (err err' : SinkView) (code : ℕ) : Type 0 where
  pub line : ProxyLine
  pub read : Agrees (line_in files.told texts) (Reads (line_seen line))
  pub unprepared : Unprepared line (SinkRose err err') net net' err err' code

-- how the run of a proxy line ended, by the files, the net and err before it and, with a prime, after it
pub data LineEnds (made : Setting → NetView → Type 0) (texts : List (List ℕ)) (files files' : FilesView) (net net' : NetView) (err err' : SinkView) (code : ℕ) : Type 0 where
  -- the words were refused, and nothing was done
  Refuses : (refusal : Refusal) → code ≡ refusal_code refusal → RefusedBy (line_in files.told texts) refusal
      → net' ≡ net → Said (SinkRose err err') err.told err'.told (refusal_line refusal)
      → LineEnds made texts files files' net net' err err' code
  -- a file failed without which nothing is settled, and nothing was done
  NoFile : (path : List ℕ) → code ≡ 4 → FilesRose files files' → line_in (without path files.told) texts ≡ Untold
      → net' ≡ net → Said (SinkRose err err') err.told err'.told (file_line path)
      → LineEnds made texts files files' net net' err err' code
  -- memory ran out before anything was done
  NoMemory : code ≡ 8 → net' ≡ net → Said (SinkRose err err') err.told err'.told memory_line
      → LineEnds made texts files files' net net' err err' code
  -- the net didn't take the line's setting
  Refrains : LineUntaken texts files net net' err err' code
      → LineEnds made texts files files' net net' err err' code
  -- the line was run
  Serves : LineServed made texts files files' net net' err err' code
      → LineEnds made texts files files' net net' err err' code

-- the words gave a line that was served to its end and, if it is to be recorded, recorded whole
pub record LineDone (made : Setting → NetView → Type 0) (texts : List (List ℕ)) (files files' : FilesView) (net net' : NetView) (err err' : SinkView) : Type 0 where
  pub line : ProxyLine
  pub read : Agrees (line_in files.told texts) (Reads (line_seen line))
  pub mid : NetView
  pub prepared : Prepared made line net mid
  pub served : Served line mid net' err err' (Ok tt)
  pub recorded : (path : List ℕ) → record_path line ≡ Some path → FileRecorded line.blocks.items mid net' (files'.told path) None

-- the words give no line that is recorded in the file of this path
abbrev pub NotRecordedIn : Line → List ℕ → Type 0
NotRecordedIn words path = (line : ProxyLine) → Agrees words (Reads (line_seen line)) → record_path line ≢ Some path

-- the statuses that a fault of the outside or of memory may give in place of 0
abbrev pub IsLineFree : ℕ → Type 0
IsLineFree code = (code ≡ 4) ⊎ ((code ≡ 5) ⊎ (code ≡ 8))

-- Of a run of the words of these texts: by the files, the net and err before the run and, with a prime, after it, and
-- by the status. What a prepare with a setting makes of the net is given.
pub record LineRun (made : Setting → NetView → Type 0) (texts : List (List ℕ)) (files files' : FilesView) (net net' : NetView) (err err' : SinkView) (code : ℕ) : Type 0 where
  -- It ends in one of five ways, each with its cause and with what the net did and err got.
  pub ends : LineEnds made texts files files' net net' err err' code
  -- 1 and 2 come exactly where the words are refused so.
  pub words_refused : IsSettled (line_in files.told texts) → ExactlyOfFiles code 1 (words_code (line_in files.told texts) ≡ 1)
  pub policy_refused : IsSettled (line_in files.told texts) → ExactlyOfFiles code 2 (words_code (line_in files.told texts) ≡ 2)
  -- 4 comes only where the files failed, and 5 only where the net's own count of faults rose.
  pub file : code ≡ 4 → FilesRose files files'
  pub net_failed : code ≡ 5 → RoseAt OfNet net net'
  -- Unless a file, the net or memory fails, words that give a line end with 0.
  pub complete : IsSettled (line_in files.told texts) → words_code (line_in files.told texts) ≡ 0 → (code ≡ 0) ⊎ IsLineFree code
  -- With 0 the line was served until nothing was left to do, or for as many turns as may be taken; err got the log
  -- alone; and the file of a recording is that of the whole run.
  pub done : code ≡ 0 → LineDone made texts files files' net net' err err'
  -- Unless a line was served, nothing was done over the net, except that it may have refused the setting of a line with
  -- --replace or --fd.
  pub unserved : (net' ≡ net) ⊎ (LineServed made texts files files' net net' err err' code ⊎ LineUntaken texts files net net' err err' code)
  -- Only files that the words name by --args-file and --args were read: a prefix of them, each once and in their order.
  -- Nothing was done over the net unless all were read.
  pub reads_named : LineReads (paths_in texts) files.reads files'.reads (SinkRose err err') err.told err'.told code
  pub reads_first : (net' ≡ net) ⊎ (files'.reads ≡ files.reads ++ paths_in texts)
  -- No file was read after one that is bad, if the files' contents are known. If these settle what the words come to,
  -- exactly the files that the words need were read, unless a file failed or memory ran out.
  pub reads_needed : ReadFront (needed_by files.told texts) files.reads files'.reads
  pub reads_exactly : IsSettled (line_in files.told texts) → (files'.reads ≡ files.reads ++ needed_by files.told texts) ⊎ ((code ≡ 4) ⊎ (code ≡ 8))
  -- No file changed but that of a recording.
  pub others : (path : List ℕ) → NotRecordedIn (line_in files.told texts) path → files'.told path ≡ files.told path
