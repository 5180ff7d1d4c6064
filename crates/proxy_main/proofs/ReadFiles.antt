-- Which files were read when a run ended.
use Rattle.std.proofs.Common.{◌≡◌, ◌≤◌, ◌⊎◌, inl, inr, ℕ, suc, ◌+◌, Bool, true, false, List, [], ◌∷◌, ◌++◌, Option, Some, Result, Ok, Err, IfErr, OnOk, ap, sym, ◌∙◌, subst, refl, arith, length, take, append_assoc, string_bytes}
use Rattle.std.proofs.Math.Seq.{take-append-add}
use Rattle.std.proofs.lemmas.List.{append-nil}
use Rattle.std.specs.Prelude.{◌==◌, ◌||◌}
use Rattle.link_traits.specs.Told.{ReadFront, ReadTo, Rose}
use Rattle.line_words.specs.declared.reading.LineStop.{LineStop}
use Rattle.line_words.specs.declared.reading.LineStop.TheVariants as line_stop
use Rattle.line_words.specs.FilesRead.{ReadUntil as LineReadUntil}
use Rattle.line_words.proofs.ReadLaws.{read_all}
use Rattle.proxy_main.specs.declared.Refusal.{Refusal}
use Rattle.proxy_main.specs.declared.Refusal.TheVariants.{Usage, LineWord, ArgsTooLong, PolicyWord, PolicyTooLong, Recording, NoSuchMessage, NoSuchSession, TooManyEntries, Message, Text}
use Rattle.proxy_main.specs.declared.Stop.{Stop}
use Rattle.proxy_main.specs.declared.Stop.TheVariants.{Refused as Refuses, File, Output, Log, Memory}
use Rattle.proxy_main.specs.Words.{Command}
use Rattle.proxy_main.specs.Answers.{refusal_code}
use Rattle.proxy_main.specs.Lines.{refusal_line, file_line}
use Rattle.proxy_main.specs.Loads.{KeepsLog}
use Rattle.proxy_main.specs.Endings.{Said, IsTold, StopTold}
use Rattle.proxy_main.specs.LineRuns.{IsToldAs}
use Rattle.proxy_main.specs.FilesRead.{paths_of, EndsAtPolicy, ToolReads, LineReads, IsOfPolicy, IsOfInput, StopsAt, StopsWork, ReadBefore, ReadUntil}
use Rattle.proxy_main.proofs.Endings.{file_told, said_first}
use Rattle.proxy_main.proofs.LineEndings.{refused_code}

-- ---- files one after the other

pub then_read : (reads before now new_reads : List (List ℕ)) (path : List ℕ) → now ≡ reads ++ before → new_reads ≡ now ++ path ∷ [] → new_reads ≡ reads ++ (before ++ path ∷ [])
then_read reads before now new_reads path so_far next = next ∙ ap (λ (paths : List (List ℕ)). paths ++ path ∷ []) so_far ∙ append_assoc reads before (path ∷ [])

pub none_read : (named reads : List (List ℕ)) → ReadFront named reads reads
none_read named reads = record { count = 0; are = sym (append-nil reads) }

pub none_named : (reads : List (List ℕ)) → reads ≡ reads ++ []
none_named reads = sym (append-nil reads)

-- a command that names no file
pub unread : (command : Command) (reads : List (List ℕ)) → paths_of (Some command) ≡ [] → reads ≡ reads ++ paths_of (Some command)
unread command reads e = sym (append-nil reads) ∙ ap (λ (paths : List (List ℕ)). reads ++ paths) (sym e)

to_front : (path : List ℕ) (named reads new_reads : List (List ℕ)) → ReadTo path named reads new_reads → ReadFront named reads new_reads
to_front path named reads new_reads to = record {
  count = length to.before + 1;
  are = to.are ∙ append_assoc reads to.before (path ∷ [])
      ∙ ap (λ (paths : List (List ℕ)). reads ++ paths) (sym (ap (take (length to.before + 1)) to.among ∙ take-append-add to.before (path ∷ to.after) 1));
}

-- a file is why a run stopped, after those before it
module _ (policies : ℕ) (before after reads now new_reads : List (List ℕ)) (path : List ℕ) (so_far : now ≡ reads ++ before) (next : new_reads ≡ now ++ path ∷ []) where
  to_path : (p : List ℕ) → p ≡ path → ReadTo p (before ++ path ∷ after) reads new_reads
  to_path p e = record {
    before = before;
    after = after;
    among = ap (λ (x : List ℕ). before ++ x ∷ after) (sym e);
    are = next ∙ ap (λ (paths : List (List ℕ)). paths ++ path ∷ []) so_far ∙ ap (λ (x : List ℕ). reads ++ before ++ x ∷ []) (sym e);
  }

  front : ReadFront (before ++ path ∷ after) reads new_reads
  front = to_front path (before ++ path ∷ after) reads new_reads (to_path path refl)

  refused_recording : (refusal : Refusal) → IsOfInput refusal → ReadBefore policies (before ++ path ∷ after) reads new_reads refusal
  refused_recording Usage h = absurd h
  refused_recording (LineWord bad) h = absurd h
  refused_recording ArgsTooLong h = absurd h
  refused_recording (PolicyWord bad) h = absurd h
  refused_recording PolicyTooLong h = absurd h
  refused_recording (Recording fault) h = front
  refused_recording NoSuchMessage h = absurd h
  refused_recording NoSuchSession h = absurd h
  refused_recording TooManyEntries h = absurd h
  refused_recording (Message bad) h = front
  refused_recording (Text bad) h = front

  pub recording_stops : (s : Stop) → StopsAt IsOfInput path s → ReadUntil policies (before ++ path ∷ after) reads new_reads s
  recording_stops (Refuses refusal) h = refused_recording refusal h
  recording_stops (File p) h = to_path p.now h
  recording_stops Output h = absurd h
  recording_stops Log h = absurd h
  recording_stops Memory h = front

-- the policy file is why, which is the first
module _ (policies : ℕ) (after reads new_reads : List (List ℕ)) (path : List ℕ) (next : new_reads ≡ reads ++ path ∷ []) where
  at_first : EndsAtPolicy (suc policies) (path ∷ after) reads new_reads
  at_first = record { count = 1; some = omega arith; within = omega arith; are = next }

  refused_policy : (refusal : Refusal) → IsOfPolicy refusal → ReadBefore (suc policies) (path ∷ after) reads new_reads refusal
  refused_policy Usage h = absurd h
  refused_policy (LineWord bad) h = absurd h
  refused_policy ArgsTooLong h = absurd h
  refused_policy (PolicyWord bad) h = at_first
  refused_policy PolicyTooLong h = at_first
  refused_policy (Recording fault) h = absurd h
  refused_policy NoSuchMessage h = absurd h
  refused_policy NoSuchSession h = absurd h
  refused_policy TooManyEntries h = absurd h
  refused_policy (Message bad) h = absurd h
  refused_policy (Text bad) h = absurd h

  pub policy_stops : (s : Stop) → StopsAt IsOfPolicy path s → ReadUntil (suc policies) (path ∷ after) reads new_reads s
  policy_stops (Refuses refusal) h = refused_policy refusal h
  policy_stops (File p) h = to_path 0 [] after reads reads new_reads path (none_named reads) next p.now h
  policy_stops Output h = absurd h
  policy_stops Log h = absurd h
  policy_stops Memory h = front 0 [] after reads reads new_reads path (none_named reads) next

-- the others are why, after a first file of which nothing is refused; it is a policy file if one of them may be the
-- last
module _ (policies all_policies : ℕ) (named reads now new_reads : List (List ℕ)) (path : List ℕ) (first : (n : ℕ) → 1 ≤ n → n ≤ policies → n + 1 ≤ all_policies) (next : now ≡ reads ++ path ∷ []) where
  later_all : new_reads ≡ now ++ named → new_reads ≡ reads ++ path ∷ named
  later_all all = all ∙ ap (λ (paths : List (List ℕ)). paths ++ named) next ∙ append_assoc reads (path ∷ []) named

  later_front : ReadFront named now new_reads → ReadFront (path ∷ named) reads new_reads
  later_front front = record {
    count = suc front.count;
    are = front.are ∙ ap (λ (paths : List (List ℕ)). paths ++ take front.count named) next ∙ append_assoc reads (path ∷ []) (take front.count named);
  }

  later_policy : EndsAtPolicy policies named now new_reads → EndsAtPolicy all_policies (path ∷ named) reads new_reads
  later_policy e = record {
    count = suc e.count;
    some = omega arith;
    within = omega (arith, first e.count e.some e.within);
    are = e.are ∙ ap (λ (paths : List (List ℕ)). paths ++ take e.count named) next ∙ append_assoc reads (path ∷ []) (take e.count named);
  }

  later_to : (p : List ℕ) → ReadTo p named now new_reads → ReadTo p (path ∷ named) reads new_reads
  later_to p to = record {
    before = path ∷ to.before;
    after = to.after;
    among = ap (λ (paths : List (List ℕ)). path ∷ paths) to.among;
    are = to.are ∙ ap (λ (paths : List (List ℕ)). paths ++ p ∷ []) (ap (λ (paths : List (List ℕ)). paths ++ to.before) next ∙ append_assoc reads (path ∷ []) to.before);
  }

  later_refused : (refusal : Refusal) → ReadBefore policies named now new_reads refusal → ReadBefore all_policies (path ∷ named) reads new_reads refusal
  later_refused Usage h = later_front h
  later_refused (LineWord bad) h = absurd h
  later_refused ArgsTooLong h = absurd h
  later_refused (PolicyWord bad) h = later_policy h
  later_refused PolicyTooLong h = later_policy h
  later_refused (Recording fault) h = later_front h
  later_refused NoSuchMessage h = later_all h
  later_refused NoSuchSession h = later_all h
  later_refused TooManyEntries h = later_all h
  later_refused (Message bad) h = later_front h
  later_refused (Text bad) h = later_front h

  pub later_stops : (s : Stop) → ReadUntil policies named now new_reads s → ReadUntil all_policies (path ∷ named) reads new_reads s
  later_stops (Refuses refusal) h = later_refused refusal h
  later_stops (File p) h = later_to p.now h
  later_stops Output h = later_all h
  later_stops Log h = later_all h
  later_stops Memory h = later_front h

-- the work is why, once all were read
module _ (policies : ℕ) (named reads new_reads : List (List ℕ)) (all : new_reads ≡ reads ++ named) where
  refused_work : (refusal : Refusal) → StopsWork (Refuses refusal) → ReadBefore policies named reads new_reads refusal
  refused_work Usage h = absurd h
  refused_work (LineWord bad) h = absurd h
  refused_work ArgsTooLong h = absurd h
  refused_work (PolicyWord bad) h = absurd h
  refused_work PolicyTooLong h = absurd h
  refused_work (Recording fault) h = absurd h
  refused_work NoSuchMessage h = all
  refused_work NoSuchSession h = all
  refused_work TooManyEntries h = all
  refused_work (Message bad) h = absurd h
  refused_work (Text bad) h = absurd h

  pub work_stops : (s : Stop) → StopsWork s → ReadUntil policies named reads new_reads s
  work_stops (Refuses refusal) h = refused_work refusal h
  work_stops (File p) h = absurd h
  work_stops Output h = all
  work_stops Log h = all
  work_stops Memory h = read_all named reads new_reads all

  pub work_ends : {A : Type 0} (result : Result A Stop) → IfErr result StopsWork → IfErr result (ReadUntil policies named reads new_reads)
  work_ends (Ok x) h = tt
  work_ends (Err s) h = work_stops s h

  pub work_done : {A : Type 0} (result : Result A Stop) → OnOk result (new_reads ≡ reads ++ named)
  work_done (Ok x) = all
  work_done (Err s) = tt

-- ---- a tool's status

-- the statuses with which all files were read
abbrev is_late : ℕ → Bool
is_late code = (code == 0) || (code == 6) || (code == 7) || (code == 9)

late : (code : ℕ) → (code ≡ 0) ⊎ ((code ≡ 6) ⊎ ((code ≡ 7) ⊎ (code ≡ 9))) → is_late code ≡ true
late code (inl e) = ap is_late e
late code (inr (inl e)) = ap is_late e
late code (inr (inr (inl e))) = ap is_late e
late code (inr (inr (inr e))) = ap is_late e

not_late : {A : Type 0} (code this : ℕ) → code ≡ this → is_late this ≡ false → (code ≡ 0) ⊎ ((code ≡ 6) ⊎ ((code ≡ 7) ⊎ (code ≡ 9))) → A
not_late code this e early h = let same : false ≡ true = sym early ∙ ap is_late (sym e) ∙ late code h in cc

module _ (policies : ℕ) (named reads new_reads : List (List ℕ)) (rose : Type 0) (err new_err : Option (List ℕ)) (code : ℕ) where
  -- with a status with which all were
  reads_all : new_reads ≡ reads ++ named → (code ≡ 2 → ⊥) → (code ≡ 4 → ⊥) → ToolReads policies named reads new_reads rose err new_err code
  reads_all all no_2 no_4 = record {
    front = read_all named reads new_reads all;
    all = λ late. all;
    policy = λ is. absurd (no_2 is);
    last = λ is. absurd (no_4 is);
  }

  -- with a status that says no more
  reads_front : ReadFront named reads new_reads → (this : ℕ) → code ≡ this → is_late this ≡ false → (code ≡ 2 → ⊥) → (code ≡ 4 → ⊥) → ToolReads policies named reads new_reads rose err new_err code
  reads_front some this is early no_2 no_4 = record {
    front = some;
    all = not_late code this is early;
    policy = λ is. absurd (no_2 is);
    last = λ is. absurd (no_4 is);
  }

  reads_policy : EndsAtPolicy policies named reads new_reads → code ≡ 2 → ToolReads policies named reads new_reads rose err new_err code
  reads_policy one is = record {
    front = record { count = one.count; are = one.are };
    all = not_late code 2 is refl;
    policy = λ this. one;
    last = λ four. absurd (omega arith);
  }

  reads_to : (path : List ℕ) → ReadTo path named reads new_reads → Said rose err new_err (file_line path) → code ≡ 4 → ToolReads policies named reads new_reads rose err new_err code
  reads_to path to said is = record {
    front = to_front path named reads new_reads to;
    all = not_late code 4 is refl;
    policy = λ two. absurd (omega arith);
    last = λ this. (path, to, said);
  }

  pub done_reads : new_reads ≡ reads ++ named → {T : Type 0} → (code ≡ 0) ⊎ ((code ≡ 7) × T) → ToolReads policies named reads new_reads rose err new_err code
  done_reads all (inl is) = reads_all all (λ two. omega arith) (λ four. omega arith)
  done_reads all (inr is) = let seven : code ≡ 7 = is.0 in reads_all all (λ two. omega arith) (λ four. omega arith)

  refusal_reads : (refusal : Refusal) → ReadBefore policies named reads new_reads refusal → code ≡ refusal_code refusal → ToolReads policies named reads new_reads rose err new_err code
  refusal_reads Usage h is = reads_front h 1 is refl (λ two. omega arith) (λ four. omega arith)
  refusal_reads (LineWord bad) h is = absurd h
  refusal_reads ArgsTooLong h is = absurd h
  refusal_reads (PolicyWord bad) h is = reads_policy h is
  refusal_reads PolicyTooLong h is = reads_policy h is
  refusal_reads (Recording fault) h is = reads_front h 3 is refl (λ two. omega arith) (λ four. omega arith)
  refusal_reads NoSuchMessage h is = reads_all h (λ two. omega arith) (λ four. omega arith)
  refusal_reads NoSuchSession h is = reads_all h (λ two. omega arith) (λ four. omega arith)
  refusal_reads TooManyEntries h is = reads_all h (λ two. omega arith) (λ four. omega arith)
  refusal_reads (Message bad) h is = reads_front h 3 is refl (λ two. omega arith) (λ four. omega arith)
  refusal_reads (Text bad) h is = reads_front h 3 is refl (λ two. omega arith) (λ four. omega arith)

  refusal_front : (refusal : Refusal) → ReadBefore policies named reads new_reads refusal → ReadFront named reads new_reads
  refusal_front Usage h = h
  refusal_front (LineWord bad) h = absurd h
  refusal_front ArgsTooLong h = absurd h
  refusal_front (PolicyWord bad) h = record { count = h.count; are = h.are }
  refusal_front PolicyTooLong h = record { count = h.count; are = h.are }
  refusal_front (Recording fault) h = h
  refusal_front NoSuchMessage h = read_all named reads new_reads h
  refusal_front NoSuchSession h = read_all named reads new_reads h
  refusal_front TooManyEntries h = read_all named reads new_reads h
  refusal_front (Message bad) h = h
  refusal_front (Text bad) h = h

-- the count of err's faults is a at the start, b after the work and c after the line
pub stop_reads : (told : List ℕ → Option (List ℕ)) (command : Option Command) (policies : ℕ) (named reads new_reads : List (List ℕ)) (err between new_err : Option (List ℕ)) (a b c code : ℕ) (s : Stop) → a ≤ b →
    ReadUntil policies named reads new_reads s → KeepsLog told command err between s → StopTold (Rose b c) between new_err code s → ToolReads policies named reads new_reads (Rose a c) err new_err code
stop_reads told command policies named reads new_reads err between new_err a b c code (Refuses refusal) le until log (inl t) =
    refusal_reads policies named reads new_reads (Rose a c) err new_err code refusal until t.0
stop_reads told command policies named reads new_reads err between new_err a b c code (Refuses refusal) le until log (inr t) =
    reads_front policies named reads new_reads (Rose a c) err new_err code (refusal_front policies named reads new_reads (Rose a c) err new_err code refusal until) 8 t.0 refl (λ two. omega (arith, t.0, two)) (λ four. omega (arith, t.0, four))
stop_reads told command policies named reads new_reads err between new_err a b c code (File path) le until log (inl t) =
    reads_to policies named reads new_reads (Rose a c) err new_err code path.now until (said_first a b c err between new_err (file_line path.now) le log t.1) t.0
stop_reads told command policies named reads new_reads err between new_err a b c code (File path) le until log (inr t) =
    reads_front policies named reads new_reads (Rose a c) err new_err code (to_front path.now named reads new_reads until) 8 t.0 refl (λ two. omega (arith, t.0, two)) (λ four. omega (arith, t.0, four))
stop_reads told command policies named reads new_reads err between new_err a b c code Output le until log t = reads_all policies named reads new_reads (Rose a c) err new_err code until (λ two. omega (arith, t.0, two)) (λ four. omega (arith, t.0, four))
stop_reads told command policies named reads new_reads err between new_err a b c code Log le until log t = reads_all policies named reads new_reads (Rose a c) err new_err code until (λ two. omega (arith, t.0, two)) (λ four. omega (arith, t.0, four))
stop_reads told command policies named reads new_reads err between new_err a b c code Memory le until log t = reads_front policies named reads new_reads (Rose a c) err new_err code until 8 t.0 refl (λ two. omega (arith, t.0, two)) (λ four. omega (arith, t.0, four))

-- ---- the status of a proxy line's run

module _ (named reads new_reads : List (List ℕ)) (rose : Type 0) (err new_err : Option (List ℕ)) (code : ℕ) where
  line_memory : ReadFront named reads new_reads → code ≡ 8 → LineReads named reads new_reads rose err new_err code
  line_memory some is = record { front = some; all = by; last = λ four. absurd (omega arith) }
    where
      by : (code ≡ 0) ⊎ (code ≡ 5) → new_reads ≡ reads ++ named
      by (inl e) = absurd (omega arith)
      by (inr e) = absurd (omega arith)

  line_refused : (refusal : Refusal) → ReadFront named reads new_reads → IsTold (refusal_code refusal) (refusal_line refusal) rose err new_err code → LineReads named reads new_reads rose err new_err code
  line_refused refusal some (inr t) = line_memory some t.0
  line_refused refusal some (inl t) = record {
    front = some;
    all = by;
    last = λ is. refused_code refusal 4 (inr (inl refl)) (sym t.0 ∙ is);
  }
    where
      by : (code ≡ 0) ⊎ (code ≡ 5) → new_reads ≡ reads ++ named
      by (inl is) = refused_code refusal 0 (inl refl) (sym t.0 ∙ is)
      by (inr is) = refused_code refusal 5 (inr (inr refl)) (sym t.0 ∙ is)

  line_to : (path : List ℕ) → ReadTo path named reads new_reads → IsTold 4 (file_line path) rose err new_err code → LineReads named reads new_reads rose err new_err code
  line_to path to (inr t) = line_memory (to_front path named reads new_reads to) t.0
  line_to path to (inl t) = record {
    front = to_front path named reads new_reads to;
    all = by;
    last = λ is. inl (path, to, t.1);
  }
    where
      by : (code ≡ 0) ⊎ (code ≡ 5) → new_reads ≡ reads ++ named
      by (inl is) = absurd (omega (arith, t.0, is))
      by (inr is) = absurd (omega (arith, t.0, is))

  pub line_stop_reads : (why : LineStop) (stop : Stop) → LineReadUntil named reads new_reads why → IsToldAs why stop → StopTold rose err new_err code stop → LineReads named reads new_reads rose err new_err code
  line_stop_reads (line_stop.File path) stop until same t = line_to (string_bytes path) until (file_told rose err new_err code (string_bytes path) stop same t)
  line_stop_reads line_stop.TooLong stop until same t = line_refused ArgsTooLong until (subst (λ (s : Stop). StopTold rose err new_err code s) same t)
  line_stop_reads (line_stop.Bad bad) stop until same t = line_refused (LineWord bad) until (subst (λ (s : Stop). StopTold rose err new_err code s) same t)
  line_stop_reads line_stop.Memory stop until same t = let m = subst (λ (s : Stop). StopTold rose err new_err code s) same t in line_memory until m.0

  -- all were read where the line is run
  pub line_all : new_reads ≡ reads ++ named → LineReads named reads new_reads rose err new_err code
  line_all all = record { front = read_all named reads new_reads all; all = λ served. all; last = λ is. inr all }
