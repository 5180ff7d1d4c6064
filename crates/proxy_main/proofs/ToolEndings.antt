-- How a tool's run ended, and what follows from it.
use Rattle.std.proofs.Common.{◌≡◌, ◌⊎◌, ◌++◌, inl, inr, ℕ, true, List, Option, None, Some, sym, ◌∙◌, subst, refl, arith}
use Rattle.link_traits.specs.Told.{ReadFront}
use Rattle.link_traits.specs.Views.{FilesView, SinkView, FilesRose, SinkRose}
use Rattle.proxy_main.specs.declared.Refusal.{Refusal}
use Rattle.proxy_main.specs.declared.Refusal.TheVariants.{Usage, LineWord, ArgsTooLong, PolicyWord, PolicyTooLong, Recording as BadFile, NoSuchMessage, NoSuchSession, TooManyEntries, Message, Text}
use Rattle.proxy_main.specs.Words.{Command, reading}
use Rattle.proxy_main.specs.Answers.{Answer, answer_of, IsSettled, HasCode, refusal_code, may_log}
use Rattle.proxy_main.specs.Loads.{IsEnd, IsLogged, IsOfWords}
use Rattle.proxy_main.specs.Endings.{Ends, Done, Refuses, NoFile, OutFails, LogFails, NoMemory, Exactly}
use Rattle.proxy_main.specs.FilesRead.{paths_of, policies_of, needed, ToolReads}
use Rattle.proxy_main.specs.ToolRuns.{ToolRun}
use Rattle.proxy_main.proofs.Fronts.{out_front, err_front}
use Rattle.proxy_main.proofs.LineEndings.{refused_code}
use Rattle.proxy_main.proofs.Statuses.{answers-no, complete, done-told, exactly_of_files, exactly_of_work, nothing-told}

-- a refusal with status 1 is of the words
refused-usage : (refusal : Refusal) (command : Option Command) (code : ℕ) → code ≡ refusal_code refusal → IsOfWords refusal command → code ≡ 1 → command ≡ None
refused-usage Usage command code is words one = words
refused-usage (LineWord bad) command code is words one = absurd words
refused-usage ArgsTooLong command code is words one = absurd words
refused-usage (PolicyWord bad) command code is words one = absurd (omega arith)
refused-usage PolicyTooLong command code is words one = absurd (omega arith)
refused-usage (BadFile fault) command code is words one = absurd (omega arith)
refused-usage NoSuchMessage command code is words one = absurd (omega arith)
refused-usage NoSuchSession command code is words one = absurd (omega arith)
refused-usage TooManyEntries command code is words one = absurd (omega arith)
refused-usage (Message bad) command code is words one = absurd (omega arith)
refused-usage (Text bad) command code is words one = absurd (omega arith)

-- none has status 6
refused-six : (refusal : Refusal) (command : Option Command) (code : ℕ) → code ≡ refusal_code refusal → IsOfWords refusal command → code ≡ 6 → ⊥
refused-six Usage command code is words six = omega arith
refused-six (LineWord bad) command code is words six = words
refused-six ArgsTooLong command code is words six = words
refused-six (PolicyWord bad) command code is words six = omega arith
refused-six PolicyTooLong command code is words six = omega arith
refused-six (BadFile fault) command code is words six = omega arith
refused-six NoSuchMessage command code is words six = omega arith
refused-six NoSuchSession command code is words six = omega arith
refused-six TooManyEntries command code is words six = omega arith
refused-six (Message bad) command code is words six = omega arith
refused-six (Text bad) command code is words six = omega arith

-- words that aren't the tool's
unread : (command : Option Command) (files files' : FilesView) (out out' err err' : SinkView) (code : ℕ) → Ends command files files' out out' err err' code → command ≡ None → (code ≡ 1) ⊎ (code ≡ 8)
unread (Some asked) files files' out out' err err' code ends none = let never : Some asked ≡ None = none in absurd cc
unread None files files' out out' err err' code (Done is done log) none = inl (sym (done tt).0)
unread None files files' out out' err err' code (Refuses r is agrees words kept said) none = inl (is ∙ subst (λ (a : Answer). HasCode a 1) (agrees tt) refl)
unread None files files' out out' err err' code (NoFile path is rose needs kept said) none = absurd (subst (λ (a : Answer). IsSettled a) needs tt)
unread None files files' out out' err err' code (OutFails is rose work front log) none = absurd (work tt)
unread None files files' out out' err err' code (LogFails is rose asked work kept log) none = absurd (work tt)
unread None files files' out out' err err' code (NoMemory is kept said) none = inr is

module _ (command : Option Command) (files files' : FilesView) (out out' err err' : SinkView) (code : ℕ) (ends : Ends command files files' out out' err err' code) where
  no_end : (this : ℕ) → (0 ≡ this → ⊥) → (7 ≡ this → ⊥) → IsEnd command code → code ≡ this → ⊥
  no_end this not_none not_seven (inl none) e = not_none (sym none ∙ e)
  no_end this not_none not_seven (inr seven) e = not_seven (sym seven.0 ∙ e)

  usage-told : Exactly code 1 (command ≡ None)
  usage-told = (
    λ one. elim ends [
      | Done is done log ↦ absurd (no_end 1 (λ e. omega arith) (λ e. omega arith) is one)
      | Refuses r is agrees words kept said ↦ refused-usage r command code is words one
      | NoFile path is rose needs kept said ↦ absurd (omega (arith, is, one))
      | OutFails is rose work front log ↦ absurd (omega (arith, is, one))
      | LogFails is rose asked work kept log ↦ absurd (omega (arith, is, one))
      | NoMemory is kept said ↦ absurd (omega (arith, is, one))
    ],
    unread command files files' out out' err err' code ends,
  )

  file-told : code ≡ 4 → FilesRose files files'
  file-told four = elim ends [
    | Done is done log ↦ absurd (no_end 4 (λ e. omega arith) (λ e. omega arith) is four)
    | Refuses r is agrees words kept said ↦ refused_code r 4 (inr (inl refl)) (sym is ∙ four)
    | NoFile path is rose needs kept said ↦ rose
    | OutFails is rose work front log ↦ absurd (omega (arith, is, four))
    | LogFails is rose asked work kept log ↦ absurd (omega (arith, is, four))
    | NoMemory is kept said ↦ absurd (omega (arith, is, four))
  ]

  sink-told : code ≡ 6 → SinkRose out out' ⊎ ((may_log files.told command ≡ true) × SinkRose err err')
  sink-told six = elim ends [
    | Done is done log ↦ absurd (no_end 6 (λ e. omega arith) (λ e. omega arith) is six)
    | Refuses r is agrees words kept said ↦ absurd (refused-six r command code is words six)
    | NoFile path is rose needs kept said ↦ absurd (omega (arith, is, six))
    | OutFails is rose work front log ↦ inl rose
    | LogFails is rose asked work kept log ↦ inr (asked, rose)
    | NoMemory is kept said ↦ absurd (omega (arith, is, six))
  ]

  log-first : (out'.told ≡ out.told) ⊎ IsLogged files.told command err.told err'.told
  log-first = elim ends [
    | Done is done log ↦ inr log
    | Refuses r is agrees words kept said ↦ inl kept
    | NoFile path is rose needs kept said ↦ inl kept
    | OutFails is rose work front log ↦ inr log
    | LogFails is rose asked work kept log ↦ inl kept
    | NoMemory is kept said ↦ inl kept
  ]

pub tool_run : (texts : List (List ℕ)) (files files' : FilesView) (out out' err err' : SinkView) (code : ℕ) → Ends (reading texts) files files' out out' err err' code →
    ToolReads (policies_of (reading texts)) (paths_of (reading texts)) files.reads files'.reads (SinkRose err err') err.told err'.told code →
    ReadFront (needed files.told (reading texts)) files.reads files'.reads →
    (IsSettled (answer_of texts files.told) → (files'.reads ≡ files.reads ++ needed files.told (reading texts)) ⊎ ((code ≡ 4) ⊎ (code ≡ 8))) → ToolRun texts files files' out out' err err' code
tool_run texts files files' out out' err err' code ends named front exactly = record {
  ends = ends;
  usage = usage-told (reading texts) files files' out out' err err' code ends;
  policy = λ settled. exactly_of_files (reading texts) files files' out out' err err' code ends settled 2 (λ free. omega arith) (λ work. omega arith);
  recording = λ settled. exactly_of_files (reading texts) files files' out out' err err' code ends settled 3 (λ free. omega arith) (λ work. omega arith);
  missing = λ settled. exactly_of_files (reading texts) files files' out out' err err' code ends settled 9 (λ free. omega arith) (λ work. omega arith);
  whole = λ settled. exactly_of_work (reading texts) files files' out out' err err' code ends settled 0 (λ free. omega arith);
  differ = λ settled. exactly_of_work (reading texts) files files' out out' err err' code ends settled 7 (λ free. omega arith);
  answers_no = answers-no (reading texts) files files' out out' err err' code ends;
  file = file-told (reading texts) files files' out out' err err' code ends;
  sink = sink-told (reading texts) files files' out out' err err' code ends;
  complete = λ settled. complete (reading texts) files files' out out' err err' code ends settled;
  done = done-told (reading texts) files files' out out' err err' code ends;
  front = out_front (reading texts) files files' out out' err err' code ends;
  nothing = nothing-told (reading texts) files files' out out' err err' code ends;
  first = log-first (reading texts) files files' out out' err err' code ends;
  said = err_front (reading texts) files files' out out' err err' code ends;
  reads_named = named;
  reads_needed = front;
  reads_exactly = exactly;
}
