-- How the run of a proxy line ends, and what follows from it.
use Rattle.std.proofs.Common.{◌≡◌, ◌≤◌, ◌<◌, ◌⊎◌, ◌++◌, [], inl, inr, ℕ, Bool, true, false, if◌then◌else◌, List, Option, None, Some, Ok, Err, ap, sym, ◌∙◌, subst, refl, arith, string_bytes}
use Rattle.link_traits.specs.Told.{Rose, ReadFront}
use Rattle.link_traits.specs.Views.{FilesView, FilesRose, SinkView, SinkRose, NetView, Adds, KeepsWishes, RoseAt}
use Rattle.link_traits.specs.declared.links.NetFault.{NetFault}
use Rattle.link_traits.specs.declared.links.NetFault.TheVariants.{Failed as NotTaken, Memory as NoNetMemory}
use Rattle.link_traits.specs.declared.links.Setting.{Setting}
use Rattle.link_traits.specs.declared.links.Count.TheVariants.{Own as OfNet}
use Rattle.link_traits.specs.declared.outside.FileFault.{FileFault}
use Rattle.link_traits.specs.declared.outside.FileFault.TheVariants.{Failed, TooLong as NoRoom, Memory as NoFileMemory}
use Rattle.policy_args.specs.declared.line.Block.{Block}
use Rattle.policy_args.specs.declared.line.ProxyLine.{ProxyLine}
use Rattle.policy_args.specs.Reading.{line_seen}
use Rattle.proxy_loop.specs.declared.turns.ServerEnd.TheVariants.{Listen, Wait, Memory}
use Rattle.proxy_run.specs.Runs.{RunEnd}
use Rattle.line_words.specs.declared.reading.LineStop.{LineStop}
use Rattle.line_words.specs.declared.reading.LineStop.TheVariants as line_stop
use Rattle.line_words.specs.Words.{Line, Untold, TooLong, Bad, Reads, line_in}
use Rattle.line_words.specs.Stops.{IsSettled, Agrees, StopsBy, CausedBy, without}
use Rattle.line_words.specs.FilesRead.{paths_in, needed_by}
use Rattle.std.proofs.lemmas.Option.{same_Some}
use Rattle.proxy_main.specs.declared.Refusal.{Refusal}
use Rattle.proxy_main.specs.declared.Refusal.TheVariants.{Usage, LineWord, ArgsTooLong, PolicyWord, PolicyTooLong, Recording as BadFile, NoSuchMessage, NoSuchSession, TooManyEntries, Message, Text}
use Rattle.proxy_main.specs.declared.Stop.{Stop}
use Rattle.proxy_main.specs.Answers.{refusal_code}
use Rattle.proxy_main.specs.Lines.{refusal_line, file_line, memory_line, listen_line, wait_line, setting_line, is_policy_kind}
use Rattle.proxy_main.specs.Endings.{Said, StopTold, IsTold, ExactlyOfFiles}
use Rattle.proxy_main.specs.FilesRead.{LineReads}
use Rattle.proxy_main.specs.LineRuns.{refusal_of, RefusedBy, code_by, words_code, Served, EndSaid, FileRecorded, TapeSaid, RecordSaid, record_path, RecordRan, Recorded, Unmade, Unstarted, LineRan, Plain, Records, LineWent, Ran, Untaken, Unprepared, SettingSaid, asks_setting, LineServed, LineUntaken, LineEnds, Refuses, NoFile, NoMemory, Refrains, Serves, LineDone, NotRecordedIn, LineRun, IsLineFree, IsToldAs}
use Rattle.proxy_main.proofs.Endings.{rose_earlier, said_over, file_told}

-- ---- where the words give no line

refused_by : (line this : Line) (refusal : Refusal) → Agrees line this → refusal_of this ≡ Some refusal → RefusedBy line refusal
refused_by line this refusal h e settled = ap refusal_of (h settled) ∙ e

module _ (made : Setting → NetView → Type 0) (texts : List (List ℕ)) (files files' : FilesView) (net : NetView) (err err' : SinkView) (code : ℕ) where
  refusal_ends : (refusal : Refusal) → RefusedBy (line_in files.told texts) refusal → IsTold (refusal_code refusal) (refusal_line refusal) (SinkRose err err') err.told err'.told code →
      LineEnds made texts files files' net net err err' code
  refusal_ends refusal by (inl t) = Refuses refusal t.0 by refl t.1
  refusal_ends refusal by (inr t) = NoMemory t.0 refl t.1

  file_ends : (path : List ℕ) → FilesRose files files' → line_in (without path files.told) texts ≡ Untold → IsTold 4 (file_line path) (SinkRose err err') err.told err'.told code →
      LineEnds made texts files files' net net err err' code
  file_ends path cause by (inl t) = NoFile path t.0 cause by refl t.1
  file_ends path cause by (inr t) = NoMemory t.0 refl t.1

  pub stop_ends : (why : LineStop) (stop : Stop) → StopsBy files.told texts why → CausedBy (FilesRose files files') why → IsToldAs why stop → StopTold (SinkRose err err') err.told err'.told code stop →
      LineEnds made texts files files' net net err err' code
  stop_ends (line_stop.File path) stop by cause same t =
      file_ends (string_bytes path) cause by (file_told (SinkRose err err') err.told err'.told code (string_bytes path) stop same t)
  stop_ends line_stop.TooLong stop by cause same t =
      refusal_ends ArgsTooLong (refused_by (line_in files.told texts) TooLong ArgsTooLong by refl) (subst (λ (s : Stop). StopTold (SinkRose err err') err.told err'.told code s) same t)
  stop_ends (line_stop.Bad bad) stop by cause same t =
      refusal_ends (LineWord bad) (refused_by (line_in files.told texts) (Bad bad) (LineWord bad) by refl) (subst (λ (s : Stop). StopTold (SinkRose err err') err.told err'.told code s) same t)
  stop_ends line_stop.Memory stop by cause same t =
      let m = subst (λ (s : Stop). StopTold (SinkRose err err') err.told err'.told code s) same t in NoMemory m.0 refl m.1

-- ---- where the net didn't take the line's setting

pub untaken : (line : ProxyLine) (rose : Type 0) (before after : NetView) (first last : SinkView) (code : ℕ) (fault : NetFault) → asks_setting line ≡ true → Adds before after [] → KeepsWishes before after →
    (fault ≡ NotTaken → RoseAt OfNet before after) → SettingSaid rose first last code fault → Unprepared line rose before after first last code
untaken line rose before after first last code NotTaken asked told wishes cause said = record { asked = asked; told = told; wishes = wishes; said = inl (said.0, (cause refl, said.1)) }
untaken line rose before after first last code NoNetMemory asked told wishes cause said = record { asked = asked; told = told; wishes = wishes; said = inr said }

-- ---- if a line was served

pub said_all : (first mid last : SinkView) (code : ℕ) (end : RunEnd) → first.faults ≤ mid.faults → EndSaid (Rose mid.faults last.faults) mid last code end → EndSaid (Rose first.faults last.faults) mid last code end
said_all first mid last code (Ok done) le s = s
said_all first mid last code (Err (Listen k)) le s = (s.0, said_over first.faults mid.faults last.faults mid.told last.told listen_line le s.1)
said_all first mid last code (Err Wait) le s = (s.0, said_over first.faults mid.faults last.faults mid.told last.told wait_line le s.1)
said_all first mid last code (Err Memory) le s = (s.0, said_over first.faults mid.faults last.faults mid.told last.told memory_line le s.1)

told_over : (first mid last : SinkView) (code : ℕ) (path : List ℕ) → first.faults ≤ mid.faults → IsTold 4 (file_line path) (Rose mid.faults last.faults) mid.told last.told code →
    IsTold 4 (file_line path) (Rose first.faults last.faults) mid.told last.told code
told_over first mid last code path le (inl t) = inl (t.0, said_over first.faults mid.faults last.faults mid.told last.told (file_line path) le t.1)
told_over first mid last code path le (inr t) = inr (t.0, said_over first.faults mid.faults last.faults mid.told last.told memory_line le t.1)

tape_all : (first mid last : SinkView) (code : ℕ) (path : List ℕ) (failed : Option FileFault) → first.faults ≤ mid.faults → TapeSaid (Rose mid.faults last.faults) mid last code path failed →
    TapeSaid (Rose first.faults last.faults) mid last code path failed
tape_all first mid last code path None le s = s
tape_all first mid last code path (Some Failed) le s = told_over first mid last code path le s
tape_all first mid last code path (Some NoRoom) le s = told_over first mid last code path le s
tape_all first mid last code path (Some NoFileMemory) le s = (s.0, said_over first.faults mid.faults last.faults mid.told last.told memory_line le s.1)

pub record_said_all : (first mid last : SinkView) (code : ℕ) (path : List ℕ) (end : RunEnd) (failed : Option FileFault) → first.faults ≤ mid.faults → RecordSaid (Rose mid.faults last.faults) mid last code path end failed →
    RecordSaid (Rose first.faults last.faults) mid last code path end failed
record_said_all first mid last code path (Ok done) failed le s = tape_all first mid last code path failed le s
record_said_all first mid last code path (Err why) failed le s = said_all first mid last code (Err why) le s

-- the file of a recording was not made
module _ (blocks : List Block) (limit : ℕ) (path : List ℕ) (new_told : List ℕ → Option (List ℕ)) (files : Type 0) (before after : NetView) (first last : SinkView) (code : ℕ) (undone : after ≡ before) where
  unmade : files → IsTold 4 (file_line path) (Rose first.faults last.faults) first.told last.told code → RecordRan blocks limit path new_told files (Rose first.faults last.faults) before after first last code
  unmade cause (inl t) = Unmade t.0 cause undone t.1
  unmade cause (inr t) = Unstarted t.0 undone t.1

  made_not : (fault : FileFault) → (fault ≡ Failed → files) → (fault ≡ NoRoom → ⊥) → TapeSaid (Rose first.faults last.faults) first last code path (Some fault) →
      RecordRan blocks limit path new_told files (Rose first.faults last.faults) before after first last code
  made_not Failed cause short t = unmade (cause refl) t
  made_not NoRoom cause short t = absurd (short refl)
  made_not NoFileMemory cause short t = Unstarted t.0 undone t.1

  pub not_made : (mid : SinkView) (fault : FileFault) → mid ≡ first → (fault ≡ Failed → files) → (fault ≡ NoRoom → ⊥) → TapeSaid (Rose mid.faults last.faults) mid last code path (Some fault) →
      RecordRan blocks limit path new_told files (Rose first.faults last.faults) before after first last code
  not_made mid fault same cause short t = made_not fault cause short (subst (λ (m : SinkView). TapeSaid (Rose m.faults last.faults) m last code path (Some fault)) same t)

-- more than the files' count of faults rose
record_more : (blocks : List Block) (limit : ℕ) (path : List ℕ) (new_told : List ℕ → Option (List ℕ)) (files more err : Type 0) (before after : NetView) (first last : SinkView) (code : ℕ) → (files → more) →
    RecordRan blocks limit path new_told files err before after first last code → RecordRan blocks limit path new_told more err before after first last code
record_more blocks limit path new_told files more err before after first last code f (Recorded end failed mid served file cause short said) = Recorded end failed mid served file (λ is. f (cause is)) short said
record_more blocks limit path new_told files more err before after first last code f (Unmade is rose net said) = Unmade is (f rose) net said
record_more blocks limit path new_told files more err before after first last code f (Unstarted is net said) = Unstarted is net said

line_more : (line : ProxyLine) (new_told : List ℕ → Option (List ℕ)) (files more err : Type 0) (before after : NetView) (first last : SinkView) (code : ℕ) → (files → more) →
    LineRan line new_told files err before after first last code → LineRan line new_told more err before after first last code
line_more line new_told files more err before after first last code f (Plain none end mid served said) = Plain none end mid served said
line_more line new_told files more err before after first last code f (Records path is ran) = Records path is (record_more line.blocks.items line.sessions path new_told files more err before after first last code f ran)

pub served_ends : (made : Setting → NetView → Type 0) (texts : List (List ℕ)) (files between files' : FilesView) (line : ProxyLine) (net net' : NetView) (err err' : SinkView) (code : ℕ) → files.faults ≤ between.faults →
    Agrees (line_in files.told texts) (Reads (line_seen line)) → LineWent made line files'.told (FilesRose between files') (SinkRose err err') net net' err err' code → LineEnds made texts files files' net net' err err' code
served_ends made texts files between files' line net net' err err' code le read (Ran mid prepared ran) =
    Serves (record {
      line = line;
      read = read;
      mid = mid;
      prepared = prepared;
      ran = line_more line files'.told (FilesRose between files') (FilesRose files files') (SinkRose err err') mid net' err err' code (rose_earlier files.faults between.faults files'.faults le) ran;
    })
served_ends made texts files between files' line net net' err err' code le read (Untaken unprepared) = Refrains (record { line = line; read = read; unprepared = unprepared })

-- ---- what follows

-- no words are refused with these statuses
module _ {A : Type 0} where
  word_code : (policy : Bool) (this : ℕ) → (this ≡ 0) ⊎ ((this ≡ 4) ⊎ (this ≡ 5)) → (if policy then 2 else 1) ≡ this → A
  word_code true this (inl h) e = absurd (omega arith)
  word_code true this (inr (inl h)) e = absurd (omega arith)
  word_code true this (inr (inr h)) e = absurd (omega arith)
  word_code false this (inl h) e = absurd (omega arith)
  word_code false this (inr (inl h)) e = absurd (omega arith)
  word_code false this (inr (inr h)) e = absurd (omega arith)

  plain_code : (code this : ℕ) → (this ≡ 0) ⊎ ((this ≡ 4) ⊎ (this ≡ 5)) → ((0 < code) × (code < 4)) ⊎ (5 < code) → code ≡ this → A
  plain_code code this (inl h) (inl c) e = absurd (omega (arith, c))
  plain_code code this (inl h) (inr c) e = absurd (omega arith)
  plain_code code this (inr (inl h)) (inl c) e = absurd (omega (arith, c))
  plain_code code this (inr (inl h)) (inr c) e = absurd (omega arith)
  plain_code code this (inr (inr h)) (inl c) e = absurd (omega (arith, c))
  plain_code code this (inr (inr h)) (inr c) e = absurd (omega arith)

  pub refused_code : (refusal : Refusal) (this : ℕ) → (this ≡ 0) ⊎ ((this ≡ 4) ⊎ (this ≡ 5)) → refusal_code refusal ≡ this → A
  refused_code Usage this h e = plain_code 1 this h (inl (omega arith)) e
  refused_code (LineWord bad) this h e = word_code (is_policy_kind bad.kind) this h e
  refused_code ArgsTooLong this h e = plain_code 1 this h (inl (omega arith)) e
  refused_code (PolicyWord bad) this h e = plain_code 2 this h (inl (omega arith)) e
  refused_code PolicyTooLong this h e = plain_code 2 this h (inl (omega arith)) e
  refused_code (BadFile fault) this h e = plain_code 3 this h (inl (omega arith)) e
  refused_code NoSuchMessage this h e = plain_code 9 this h (inr (omega arith)) e
  refused_code NoSuchSession this h e = plain_code 9 this h (inr (omega arith)) e
  refused_code TooManyEntries this h e = plain_code 7 this h (inr (omega arith)) e
  refused_code (Message bad) this h e = plain_code 3 this h (inl (omega arith)) e
  refused_code (Text bad) this h e = plain_code 3 this h (inl (omega arith)) e

module _ (made : Setting → NetView → Type 0) (texts : List (List ℕ)) (files files' : FilesView) (net net' : NetView) (err err' : SinkView) (code : ℕ) where
  -- the status of words that gave a line
  words_read : LineServed made texts files files' net net' err err' code → IsSettled (line_in files.told texts) → words_code (line_in files.told texts) ≡ 0
  words_read s settled = ap words_code (s.read settled)

  words_untaken : LineUntaken texts files net net' err err' code → IsSettled (line_in files.told texts) → words_code (line_in files.told texts) ≡ 0
  words_untaken u settled = ap words_code (u.read settled)

  words_refused : (refusal : Refusal) → RefusedBy (line_in files.told texts) refusal → IsSettled (line_in files.told texts) → words_code (line_in files.told texts) ≡ refusal_code refusal
  words_refused refusal by settled = ap code_by (by settled)

  end_code : (mid : SinkView) (end : RunEnd) → EndSaid (SinkRose err err') mid err' code end → (code ≡ 0) ⊎ ((code ≡ 4) ⊎ ((code ≡ 5) ⊎ (code ≡ 8)))
  end_code mid (Ok done) e = inl e.0
  end_code mid (Err (Listen k)) e = inr (inr (inl e.0))
  end_code mid (Err Wait) e = inr (inr (inl e.0))
  end_code mid (Err Memory) e = inr (inr (inr e.0))

  told_code : (path : List ℕ) (mid : SinkView) → IsTold 4 (file_line path) (SinkRose err err') mid.told err'.told code → (code ≡ 0) ⊎ ((code ≡ 4) ⊎ ((code ≡ 5) ⊎ (code ≡ 8)))
  told_code path mid (inl t) = inr (inl t.0)
  told_code path mid (inr t) = inr (inr (inr t.0))

  tape_code : (path : List ℕ) (mid : SinkView) (failed : Option FileFault) → TapeSaid (SinkRose err err') mid err' code path failed → (code ≡ 0) ⊎ ((code ≡ 4) ⊎ ((code ≡ 5) ⊎ (code ≡ 8)))
  tape_code path mid None t = inl t.0
  tape_code path mid (Some Failed) t = told_code path mid t
  tape_code path mid (Some NoRoom) t = told_code path mid t
  tape_code path mid (Some NoFileMemory) t = inr (inr (inr t.0))

  record_code : (path : List ℕ) (mid : SinkView) (end : RunEnd) (failed : Option FileFault) → RecordSaid (SinkRose err err') mid err' code path end failed → (code ≡ 0) ⊎ ((code ≡ 4) ⊎ ((code ≡ 5) ⊎ (code ≡ 8)))
  record_code path mid (Ok done) failed t = tape_code path mid failed t
  record_code path mid (Err why) failed t = end_code mid (Err why) t

  served_code : LineServed made texts files files' net net' err err' code → (code ≡ 0) ⊎ ((code ≡ 4) ⊎ ((code ≡ 5) ⊎ (code ≡ 8)))
  served_code s = by s.ran
    where
      by_record : (path : List ℕ) → RecordRan s.line.blocks.items s.line.sessions path files'.told (FilesRose files files') (SinkRose err err') s.mid net' err err' code → (code ≡ 0) ⊎ ((code ≡ 4) ⊎ ((code ≡ 5) ⊎ (code ≡ 8)))
      by_record path (Recorded end failed mid served file cause short said) = record_code path mid end failed said
      by_record path (Unmade is rose undone said) = inr (inl is)
      by_record path (Unstarted is undone said) = inr (inr (inr is))

      by : LineRan s.line files'.told (FilesRose files files') (SinkRose err err') s.mid net' err err' code → (code ≡ 0) ⊎ ((code ≡ 4) ⊎ ((code ≡ 5) ⊎ (code ≡ 8)))
      by (Plain none end mid served said) = end_code mid end said
      by (Records path is ran) = by_record path ran

  untaken_code : LineUntaken texts files net net' err err' code → (code ≡ 5) ⊎ (code ≡ 8)
  untaken_code u = by u.unprepared.said
    where
      by : ((code ≡ 5) × (RoseAt OfNet net net' × Said (SinkRose err err') err.told err'.told setting_line)) ⊎ ((code ≡ 8) × Said (SinkRose err err') err.told err'.told memory_line) → (code ≡ 5) ⊎ (code ≡ 8)
      by (inl t) = inl t.0
      by (inr t) = inr t.0

  not_small : {A : Type 0} (this other : ℕ) → (this ≡ 1) ⊎ (this ≡ 2) → this ≡ other → (other ≡ 4) ⊎ ((other ≡ 5) ⊎ (other ≡ 8)) → A
  not_small this other (inl a) e (inl b) = absurd (omega arith)
  not_small this other (inl a) e (inr (inl b)) = absurd (omega arith)
  not_small this other (inl a) e (inr (inr b)) = absurd (omega arith)
  not_small this other (inr a) e (inl b) = absurd (omega arith)
  not_small this other (inr a) e (inr (inl b)) = absurd (omega arith)
  not_small this other (inr a) e (inr (inr b)) = absurd (omega arith)

  absurd_zero : {A : Type 0} (this : ℕ) → (this ≡ 1) ⊎ (this ≡ 2) → 0 ≡ this → A
  absurd_zero this (inl a) e = absurd (omega arith)
  absurd_zero this (inr a) e = absurd (omega arith)

  not_served : {A : Type 0} (this : ℕ) → (this ≡ 1) ⊎ (this ≡ 2) → code ≡ this → (code ≡ 0) ⊎ ((code ≡ 4) ⊎ ((code ≡ 5) ⊎ (code ≡ 8))) → A
  not_served this small e (inl zero_is) = absurd_zero this small (sym zero_is ∙ e)
  not_served this small e (inr is) = not_small this code small (sym e) is

  -- a status of refused words is that of the words, unless a file or memory failed
  exactly : (this : ℕ) → (this ≡ 1) ⊎ (this ≡ 2) → LineEnds made texts files files' net net' err err' code → IsSettled (line_in files.told texts) → ExactlyOfFiles code this (words_code (line_in files.told texts) ≡ this)
  exactly this small (Refuses refusal is by undone said) settled = (
    λ e. words_refused refusal by settled ∙ sym is ∙ e,
    λ e. inl (is ∙ sym (words_refused refusal by settled) ∙ e),
  )
  exactly this small (NoFile path is rose by undone said) settled = (λ e. not_small this code small (sym e) (inl is), λ e. inr (inl is))
  exactly this small (NoMemory is undone said) settled = (λ e. not_small this code small (sym e) (inr (inr is)), λ e. inr (inr is))
  exactly this small (Refrains u) settled = (λ e. not_served this small e (inr (inr (untaken_code u))), λ e. absurd_zero this small (sym (words_untaken u settled) ∙ e))
  exactly this small (Serves s) settled = (λ e. not_served this small e (served_code s), λ e. absurd_zero this small (sym (words_read s settled) ∙ e))

  code_4 : LineEnds made texts files files' net net' err err' code → code ≡ 4 → FilesRose files files'
  code_4 (Refuses refusal is by undone said) e = refused_code refusal 4 (inr (inl refl)) (sym is ∙ e)
  code_4 (NoFile path is rose by undone said) e = rose
  code_4 (NoMemory is undone said) e = absurd (omega arith)
  code_4 (Refrains u) e = by (untaken_code u)
    where
      by : (code ≡ 5) ⊎ (code ≡ 8) → FilesRose files files'
      by (inl is) = absurd (omega (arith, is, e))
      by (inr is) = absurd (omega (arith, is, e))
  code_4 (Serves s) e = by s.ran
    where
      by_end : (mid : SinkView) (end : RunEnd) → EndSaid (SinkRose err err') mid err' code end → FilesRose files files'
      by_end mid (Ok done) t = let z : code ≡ 0 = t.0 in absurd (omega arith)
      by_end mid (Err (Listen k)) t = let z : code ≡ 5 = t.0 in absurd (omega arith)
      by_end mid (Err Wait) t = let z : code ≡ 5 = t.0 in absurd (omega arith)
      by_end mid (Err Memory) t = let z : code ≡ 8 = t.0 in absurd (omega arith)

      by_tape : (path : List ℕ) (mid : SinkView) (failed : Option FileFault) → (failed ≡ Some Failed → FilesRose files files') → (failed ≡ Some NoRoom → ⊥) → TapeSaid (SinkRose err err') mid err' code path failed → FilesRose files files'
      by_tape path mid None cause short t = let z : code ≡ 0 = t.0 in absurd (omega arith)
      by_tape path mid (Some Failed) cause short t = cause refl
      by_tape path mid (Some NoRoom) cause short t = absurd (short refl)
      by_tape path mid (Some NoFileMemory) cause short t = let z : code ≡ 8 = t.0 in absurd (omega arith)

      by_said : (path : List ℕ) (mid : SinkView) (end : RunEnd) (failed : Option FileFault) → (failed ≡ Some Failed → FilesRose files files') → (failed ≡ Some NoRoom → ⊥) → RecordSaid (SinkRose err err') mid err' code path end failed → FilesRose files files'
      by_said path mid (Ok done) failed cause short t = by_tape path mid failed cause short t
      by_said path mid (Err why) failed cause short t = by_end mid (Err why) t

      by_record : (path : List ℕ) → RecordRan s.line.blocks.items s.line.sessions path files'.told (FilesRose files files') (SinkRose err err') s.mid net' err err' code → FilesRose files files'
      by_record path (Recorded end failed mid served file cause short said) = by_said path mid end failed cause short said
      by_record path (Unmade is rose undone said) = rose
      by_record path (Unstarted is undone said) = absurd (omega (arith, is, e))

      by : LineRan s.line files'.told (FilesRose files files') (SinkRose err err') s.mid net' err err' code → FilesRose files files'
      by (Plain none end mid served said) = by_end mid end said
      by (Records path is ran) = by_record path ran

  code_5 : LineEnds made texts files files' net net' err err' code → code ≡ 5 → RoseAt OfNet net net'
  code_5 (Refuses refusal is by undone said) e = refused_code refusal 5 (inr (inr refl)) (sym is ∙ e)
  code_5 (NoFile path is rose by undone said) e = absurd (omega arith)
  code_5 (NoMemory is undone said) e = absurd (omega arith)
  code_5 (Refrains u) e = by u.unprepared.said
    where
      by : ((code ≡ 5) × (RoseAt OfNet net net' × Said (SinkRose err err') err.told err'.told setting_line)) ⊎ ((code ≡ 8) × Said (SinkRose err err') err.told err'.told memory_line) → RoseAt OfNet net net'
      by (inl t) = t.1.0
      by (inr t) = let z : code ≡ 8 = t.0 in absurd (omega arith)
  code_5 (Serves s) e = rose_earlier (net.counts OfNet) (s.mid.counts OfNet) (net'.counts OfNet) (s.prepared.told.counts OfNet) (by s.ran)
    where
      by_end : (mid : SinkView) (end : RunEnd) → Served s.line s.mid net' err mid end → EndSaid (SinkRose err err') mid err' code end → RoseAt OfNet s.mid net'
      by_end mid (Ok done) served t = let z : code ≡ 0 = t.0 in absurd (omega arith)
      by_end mid (Err (Listen k)) served t = served.listen k refl
      by_end mid (Err Wait) served t = served.wait refl
      by_end mid (Err Memory) served t = let z : code ≡ 8 = t.0 in absurd (omega arith)

      by_told : (path : List ℕ) (mid : SinkView) → IsTold 4 (file_line path) (SinkRose err err') mid.told err'.told code → RoseAt OfNet s.mid net'
      by_told path mid (inl t) = let z : code ≡ 4 = t.0 in absurd (omega arith)
      by_told path mid (inr t) = let z : code ≡ 8 = t.0 in absurd (omega arith)

      by_tape : (path : List ℕ) (mid : SinkView) (failed : Option FileFault) → TapeSaid (SinkRose err err') mid err' code path failed → RoseAt OfNet s.mid net'
      by_tape path mid None t = let z : code ≡ 0 = t.0 in absurd (omega arith)
      by_tape path mid (Some Failed) t = by_told path mid t
      by_tape path mid (Some NoRoom) t = by_told path mid t
      by_tape path mid (Some NoFileMemory) t = let z : code ≡ 8 = t.0 in absurd (omega arith)

      by_said : (path : List ℕ) (mid : SinkView) (end : RunEnd) (failed : Option FileFault) → Served s.line s.mid net' err mid end → RecordSaid (SinkRose err err') mid err' code path end failed → RoseAt OfNet s.mid net'
      by_said path mid (Ok done) failed served t = by_tape path mid failed t
      by_said path mid (Err why) failed served t = by_end mid (Err why) served t

      by_record : (path : List ℕ) → RecordRan s.line.blocks.items s.line.sessions path files'.told (FilesRose files files') (SinkRose err err') s.mid net' err err' code → RoseAt OfNet s.mid net'
      by_record path (Recorded end failed mid served file cause short said) = by_said path mid end failed served said
      by_record path (Unmade is rose undone said) = absurd (omega (arith, is, e))
      by_record path (Unstarted is undone said) = absurd (omega (arith, is, e))

      by : LineRan s.line files'.told (FilesRose files files') (SinkRose err err') s.mid net' err err' code → RoseAt OfNet s.mid net'
      by (Plain none end mid served said) = by_end mid end served said
      by (Records path is ran) = by_record path ran

  completes : LineEnds made texts files files' net net' err err' code → IsSettled (line_in files.told texts) → words_code (line_in files.told texts) ≡ 0 → (code ≡ 0) ⊎ IsLineFree code
  completes (Refuses refusal is by undone said) settled e = inl (is ∙ sym (words_refused refusal by settled) ∙ e)
  completes (NoFile path is rose by undone said) settled e = inr (inl is)
  completes (NoMemory is undone said) settled e = inr (inr (inr is))
  completes (Refrains u) settled e = inr (inr (untaken_code u))
  completes (Serves s) settled e = served_code s

  code_0 : LineEnds made texts files files' net net' err err' code → code ≡ 0 → LineDone made texts files files' net net' err err'
  code_0 (Refuses refusal is by undone said) e = refused_code refusal 0 (inl refl) (sym is ∙ e)
  code_0 (NoFile path is rose by undone said) e = absurd (omega arith)
  code_0 (NoMemory is undone said) e = absurd (omega arith)
  code_0 (Refrains u) e = by (untaken_code u)
    where
      by : (code ≡ 5) ⊎ (code ≡ 8) → LineDone made texts files files' net net' err err'
      by (inl is) = absurd (omega (arith, is, e))
      by (inr is) = absurd (omega (arith, is, e))
  code_0 (Serves s) e = by s.ran
    where
      at : (mid : SinkView) → err' ≡ mid → Served s.line s.mid net' err mid (Ok tt) → Served s.line s.mid net' err err' (Ok tt)
      at mid same served = subst (λ (x : SinkView). Served s.line s.mid net' err x (Ok tt)) (sym same) served

      none_is : (path : List ℕ) → record_path s.line ≡ None → record_path s.line ≡ Some path → ⊥
      none_is path none some = let never : None ≡ Some path = sym none ∙ some in absurd cc

      by_end : (mid : SinkView) (end : RunEnd) → record_path s.line ≡ None → Served s.line s.mid net' err mid end → EndSaid (SinkRose err err') mid err' code end → LineDone made texts files files' net net' err err'
      by_end mid (Ok done) none served t = record { line = s.line; read = s.read; mid = s.mid; prepared = s.prepared; served = at mid t.1 served; recorded = λ path is. absurd (none_is path none is) }
      by_end mid (Err (Listen k)) none served t = let z : code ≡ 5 = t.0 in absurd (omega arith)
      by_end mid (Err Wait) none served t = let z : code ≡ 5 = t.0 in absurd (omega arith)
      by_end mid (Err Memory) none served t = let z : code ≡ 8 = t.0 in absurd (omega arith)

      same_path : (path other : List ℕ) → record_path s.line ≡ Some path → record_path s.line ≡ Some other → path ≡ other
      same_path path other is that = same_Some path other (sym is ∙ that)

      by_tape : (path : List ℕ) (mid : SinkView) (failed : Option FileFault) → record_path s.line ≡ Some path → Served s.line s.mid net' err mid (Ok tt) →
          FileRecorded s.line.blocks.items s.mid net' (files'.told path) failed → TapeSaid (SinkRose err err') mid err' code path failed → LineDone made texts files files' net net' err err'
      by_tape path mid None is served file t = record {
        line = s.line;
        read = s.read;
        mid = s.mid;
        prepared = s.prepared;
        served = at mid t.1 served;
        recorded = λ other that. subst (λ (p : List ℕ). FileRecorded s.line.blocks.items s.mid net' (files'.told p) None) (same_path path other is that) file;
      }
      by_tape path mid (Some Failed) is served file (inl t) = let z : code ≡ 4 = t.0 in absurd (omega arith)
      by_tape path mid (Some Failed) is served file (inr t) = let z : code ≡ 8 = t.0 in absurd (omega arith)
      by_tape path mid (Some NoRoom) is served file (inl t) = let z : code ≡ 4 = t.0 in absurd (omega arith)
      by_tape path mid (Some NoRoom) is served file (inr t) = let z : code ≡ 8 = t.0 in absurd (omega arith)
      by_tape path mid (Some NoFileMemory) is served file t = let z : code ≡ 8 = t.0 in absurd (omega arith)

      by_said : (path : List ℕ) (mid : SinkView) (end : RunEnd) (failed : Option FileFault) → record_path s.line ≡ Some path → Served s.line s.mid net' err mid end →
          FileRecorded s.line.blocks.items s.mid net' (files'.told path) failed → RecordSaid (SinkRose err err') mid err' code path end failed → LineDone made texts files files' net net' err err'
      by_said path mid (Ok done) failed is served file t = by_tape path mid failed is served file t
      by_said path mid (Err (Listen k)) failed is served file t = let z : code ≡ 5 = t.0 in absurd (omega arith)
      by_said path mid (Err Wait) failed is served file t = let z : code ≡ 5 = t.0 in absurd (omega arith)
      by_said path mid (Err Memory) failed is served file t = let z : code ≡ 8 = t.0 in absurd (omega arith)

      by_record : (path : List ℕ) → record_path s.line ≡ Some path → RecordRan s.line.blocks.items s.line.sessions path files'.told (FilesRose files files') (SinkRose err err') s.mid net' err err' code → LineDone made texts files files' net net' err err'
      by_record path at_path (Recorded end failed mid served file cause short said) = by_said path mid end failed at_path served file said
      by_record path at_path (Unmade is rose undone said) = absurd (omega (arith, is, e))
      by_record path at_path (Unstarted is undone said) = absurd (omega (arith, is, e))

      by : LineRan s.line files'.told (FilesRose files files') (SinkRose err err') s.mid net' err err' code → LineDone made texts files files' net net' err err'
      by (Plain none end mid served said) = by_end mid end none served said
      by (Records path is ran) = by_record path is ran

  unserves : LineEnds made texts files files' net net' err err' code → (net' ≡ net) ⊎ (LineServed made texts files files' net net' err err' code ⊎ LineUntaken texts files net net' err err' code)
  unserves (Refuses refusal is by undone said) = inl undone
  unserves (NoFile path is rose by undone said) = inl undone
  unserves (NoMemory is undone said) = inl undone
  unserves (Refrains u) = inr (inr u)
  unserves (Serves s) = inr (inl s)

pub line_run : (made : Setting → NetView → Type 0) (texts : List (List ℕ)) (files files' : FilesView) (net net' : NetView) (err err' : SinkView) (code : ℕ) →
    LineEnds made texts files files' net net' err err' code →
    LineReads (paths_in texts) files.reads files'.reads (SinkRose err err') err.told err'.told code →
    (net' ≡ net) ⊎ (files'.reads ≡ files.reads ++ paths_in texts) → ReadFront (needed_by files.told texts) files.reads files'.reads →
    (IsSettled (line_in files.told texts) → (files'.reads ≡ files.reads ++ needed_by files.told texts) ⊎ ((code ≡ 4) ⊎ (code ≡ 8))) →
    ((path : List ℕ) → NotRecordedIn (line_in files.told texts) path → files'.told path ≡ files.told path) → LineRun made texts files files' net net' err err' code
line_run made texts files files' net net' err err' code ends named read_first needed exactly_needed others = record {
  ends = ends;
  words_refused = λ settled. exactly made texts files files' net net' err err' code 1 (inl refl) ends settled;
  policy_refused = λ settled. exactly made texts files files' net net' err err' code 2 (inr refl) ends settled;
  file = code_4 made texts files files' net net' err err' code ends;
  net_failed = code_5 made texts files files' net net' err err' code ends;
  complete = completes made texts files files' net net' err err' code ends;
  done = code_0 made texts files files' net net' err err' code ends;
  unserved = unserves made texts files files' net net' err err' code ends;
  reads_named = named;
  reads_first = read_first;
  reads_needed = needed;
  reads_exactly = exactly_needed;
  others = others;
}
