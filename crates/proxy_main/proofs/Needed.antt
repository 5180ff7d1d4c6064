-- Which of the files that words need were read when its run ended.
use Rattle.std.proofs.Common.{◌≡◌, ◌⊎◌, inl, inr, ℕ, zero, suc, List, [], ◌∷◌, ◌++◌, Option, Some, None, Result, Ok, Err, IfSome, ap, append_assoc, sym, ◌∙◌, subst, refl, take, string_bytes}
use Rattle.std.proofs.lemmas.List.{append-nil}
use Rattle.link_traits.specs.Told.{ReadFront}
use Rattle.line_words.specs.declared.reading.LineStop.{LineStop}
use Rattle.line_words.specs.declared.reading.LineStop.TheVariants as line_stop
use Rattle.line_words.specs.FilesRead.{NeededUntil as LineNeededUntil}
use Rattle.line_words.proofs.ReadLaws.{read_all}
use Rattle.policy_args.specs.Words.{PolicyOptions}
use Rattle.recording.specs.Recording.{Recording}
use Rattle.proxy_main.specs.declared.Refusal.{Refusal}
use Rattle.proxy_main.specs.declared.Stop.{Stop}
use Rattle.proxy_main.specs.declared.Stop.TheVariants.{Refused as Refuses, File, Output, Log, Memory}
use Rattle.proxy_main.specs.Words.{Command}
use Rattle.proxy_main.specs.Answers.{Answer, IsSettled, checked_policy, checked_recording, then_read, then_load}
use Rattle.proxy_main.specs.Loads.{LoadStops}
use Rattle.proxy_main.specs.Endings.{IsTold, StopTold}
use Rattle.proxy_main.specs.Lines.{file_line}
use Rattle.proxy_main.specs.LineRuns.{IsToldAs}
use Rattle.proxy_main.specs.FilesRead.{paths_of, policies_of, needed, up_to_bad, recordings_up_to_bad, behind, unless_refused, NeededUntil, ReadsNeeded}
use Rattle.proxy_main.proofs.Endings.{file_told}
use Rattle.proxy_main.proofs.Loading.{read_ok}

-- ---- what is needed after a file

pub good : {A : Type 0} (t : Option (List ℕ)) (check : List ℕ → Result A Refusal) (x : A) (more : List (List ℕ)) → IfSome t (λ bytes. check bytes ≡ Ok x) → behind t check more ≡ more
good None check x more is = refl
good (Some bytes) check x more is = ap (λ r. unless_refused r more) is

bad : {A : Type 0} (t : Option (List ℕ)) (check : List ℕ → Result A Refusal) (refusal : Refusal) (go : A → Answer) (more : List (List ℕ)) → IfSome t (λ bytes. check bytes ≡ Err refusal) →
    IsSettled (then_read t check go) → behind t check more ≡ []
bad None check refusal go more is settled = absurd settled
bad (Some bytes) check refusal go more is settled = ap (λ r. unless_refused r more) is

-- a file in front is good, and the others are why a run stopped or were read
module _ {A : Type 0} (t : Option (List ℕ)) (check : List ℕ → Result A Refusal) (x : A) (go : A → Answer) (p : List ℕ) (files reads now new_reads : List (List ℕ))
    (ok : IfSome t (λ bytes. check bytes ≡ Ok x)) (next : now ≡ reads ++ p ∷ []) where
  before_all : new_reads ≡ now ++ files → new_reads ≡ reads ++ p ∷ behind t check files
  before_all all = all ∙ ap (λ (paths : List (List ℕ)). paths ++ files) next ∙ append_assoc reads (p ∷ []) files
      ∙ ap (λ (more : List (List ℕ)). reads ++ p ∷ more) (sym (good t check x files ok))

  before_front : ReadFront files now new_reads → ReadFront (p ∷ behind t check files) reads new_reads
  before_front front = record {
    count = suc front.count;
    are = front.are ∙ ap (λ (paths : List (List ℕ)). paths ++ take front.count files) next ∙ append_assoc reads (p ∷ []) (take front.count files)
        ∙ ap (λ (more : List (List ℕ)). reads ++ p ∷ take front.count more) (sym (good t check x files ok));
  }

  pub before_needed : (s : Stop) → NeededUntil (IsSettled (go x)) files now new_reads s → NeededUntil (IsSettled (then_read t check go)) (p ∷ behind t check files) reads new_reads s
  before_needed (Refuses refusal) h = (before_front h.0, λ settled. before_all (h.1 (subst IsSettled (read_ok t check x go ok settled) settled)))
  before_needed (File path) h = before_front h
  before_needed Output h = before_all h
  before_needed Log h = before_all h
  before_needed Memory h = before_front h

-- a file is why a run stopped
module _ {A : Type 0} (t : Option (List ℕ)) (check : List ℕ → Result A Refusal) (go : A → Answer) (p : List ℕ) (files reads new_reads : List (List ℕ)) (next : new_reads ≡ reads ++ p ∷ []) where
  this_front : ReadFront (p ∷ behind t check files) reads new_reads
  this_front = record { count = 1; are = next }

  pub this_needed : (s : Stop) → LoadStops check t p s → NeededUntil (IsSettled (then_read t check go)) (p ∷ behind t check files) reads new_reads s
  this_needed (Refuses refusal) is = (
    this_front,
    λ settled. next ∙ ap (λ (more : List (List ℕ)). reads ++ p ∷ more) (sym (bad t check refusal go files is.0 settled)),
  )
  this_needed (File path) is = this_front
  this_needed Output is = absurd is
  this_needed Log is = absurd is
  this_needed Memory is = this_front

-- nothing after the last
none_behind : {A : Type 0} (r : Result A Refusal) → unless_refused r [] ≡ []
none_behind (Ok x) = refl
none_behind (Err refusal) = refl

pub last : {A : Type 0} (t : Option (List ℕ)) (check : List ℕ → Result A Refusal) → behind t check [] ≡ []
last None check = refl
last (Some bytes) check = none_behind (check bytes)

-- ---- the policy file is why a run stopped

pub policy_needed : (told : List ℕ → Option (List ℕ)) (p : List ℕ) (recordings reads new_reads : List (List ℕ)) (go : PolicyOptions → Answer) → new_reads ≡ reads ++ p ∷ [] →
    (s : Stop) → LoadStops checked_policy (told p) p s → NeededUntil (IsSettled (then_read (told p) checked_policy go)) (up_to_bad 1 told (p ∷ recordings)) reads new_reads s
policy_needed told p recordings reads new_reads go next s is = this_needed (told p) checked_policy go p (recordings_up_to_bad told recordings) reads new_reads next s is

-- ---- after a good policy file

module _ (told : List ℕ → Option (List ℕ)) (p r : List ℕ) (o : PolicyOptions) (ok : IfSome (told p) (λ bytes. checked_policy bytes ≡ Ok o)) where
  good_policy : (recordings : List (List ℕ)) → up_to_bad 1 told (p ∷ recordings) ≡ p ∷ recordings_up_to_bad told recordings
  good_policy recordings = ap (λ (more : List (List ℕ)). p ∷ more) (good (told p) checked_policy o (recordings_up_to_bad told recordings) ok)

  -- all files of a replay and of an explanation
  pub both_needed : (reads new_reads : List (List ℕ)) → new_reads ≡ reads ++ (p ∷ r ∷ []) → new_reads ≡ reads ++ up_to_bad 1 told (p ∷ r ∷ [])
  both_needed reads new_reads all =
      all ∙ ap (λ (files : List (List ℕ)). reads ++ files) (sym (good_policy (r ∷ []) ∙ ap (λ (more : List (List ℕ)). p ∷ r ∷ more) (last (told r) checked_recording)))

  -- .. and of a comparison, if the first recording is good
  pub twins_needed : (b : List ℕ) (x : Recording) → IfSome (told r) (λ bytes. checked_recording bytes ≡ Ok x) → (reads new_reads : List (List ℕ)) → new_reads ≡ reads ++ (p ∷ r ∷ b ∷ []) →
      new_reads ≡ reads ++ up_to_bad 1 told (p ∷ r ∷ b ∷ [])
  twins_needed b x one reads new_reads all =
      all ∙ ap (λ (files : List (List ℕ)). reads ++ files)
      (sym (good_policy (r ∷ b ∷ []) ∙ ap (λ (more : List (List ℕ)). p ∷ r ∷ more)
      (good (told r) checked_recording x (b ∷ behind (told b) checked_recording []) one ∙ ap (λ (more : List (List ℕ)). b ∷ more) (last (told b) checked_recording))))

  -- the recording is why a run stopped; what was told of it when it was read, t, is what was told before
  module _ (t : Option (List ℕ)) (same : t ≡ told r) (after reads new_reads : List (List ℕ)) (work : PolicyOptions → Recording → Answer) (next : new_reads ≡ reads ++ (p ∷ r ∷ [])) where
    two : ReadFront (up_to_bad 1 told (p ∷ r ∷ after)) reads new_reads
    two = record { count = 2; are = next ∙ ap (λ (files : List (List ℕ)). reads ++ take 2 files) (sym (good_policy (r ∷ after))) }

    exactly : (refusal : Refusal) → IfSome t (λ bytes. checked_recording bytes ≡ Err refusal) → IsSettled (then_load told p r work) → new_reads ≡ reads ++ up_to_bad 1 told (p ∷ r ∷ after)
    exactly refusal is settled =
        let now = subst IsSettled (read_ok (told p) checked_policy o (λ (options : PolicyOptions). then_read (told r) checked_recording (work options)) ok settled) settled in
        let is_told = subst (λ (u : Option (List ℕ)). IfSome u (λ bytes. checked_recording bytes ≡ Err refusal)) same is in
        next ∙ ap (λ (files : List (List ℕ)). reads ++ files)
        (sym (good_policy (r ∷ after) ∙ ap (λ (more : List (List ℕ)). p ∷ r ∷ more) (bad (told r) checked_recording refusal (work o) (recordings_up_to_bad told after) is_told now)))

    pub recording_needed : (s : Stop) → LoadStops checked_recording t r s → NeededUntil (IsSettled (then_load told p r work)) (up_to_bad 1 told (p ∷ r ∷ after)) reads new_reads s
    recording_needed (Refuses refusal) is = (two, exactly refusal is.0)
    recording_needed (File path) is = two
    recording_needed Output is = absurd is
    recording_needed Log is = absurd is
    recording_needed Memory is = two

-- ---- all files that are needed were read

module _ (settled : Type 0) (files reads new_reads : List (List ℕ)) (all : new_reads ≡ reads ++ files) where
  pub needed_until : (s : Stop) → NeededUntil settled files reads new_reads s
  needed_until (Refuses refusal) = (read_all files reads new_reads all, λ h. all)
  needed_until (File path) = read_all files reads new_reads all
  needed_until Output = all
  needed_until Log = all
  needed_until Memory = read_all files reads new_reads all

  pub reads_needed : {A : Type 0} (result : Result A Stop) → ReadsNeeded settled files reads new_reads result
  reads_needed (Ok x) = all
  reads_needed (Err s) = needed_until s

none_up_to_bad : (policies : ℕ) (told : List ℕ → Option (List ℕ)) → up_to_bad policies told [] ≡ []
none_up_to_bad zero told = refl
none_up_to_bad (suc policies) told = refl

-- words that name no file need none
pub none_needed : (told : List ℕ → Option (List ℕ)) (command : Option Command) (reads : List (List ℕ)) → paths_of command ≡ [] → reads ≡ reads ++ needed told command
none_needed told command reads e =
    sym (append-nil reads)
    ∙ ap (λ (paths : List (List ℕ)). reads ++ paths) (sym (ap (up_to_bad (policies_of command) told) e ∙ none_up_to_bad (policies_of command) told))

-- ---- a run

module _ (settled : Type 0) (files reads new_reads : List (List ℕ)) where
  pub needed_front : (s : Stop) → NeededUntil settled files reads new_reads s → ReadFront files reads new_reads
  needed_front (Refuses refusal) h = h.0
  needed_front (File path) h = h
  needed_front Output h = read_all files reads new_reads h
  needed_front Log h = read_all files reads new_reads h
  needed_front Memory h = h

  pub needed_exactly : (rose : Type 0) (err new_err : Option (List ℕ)) (code : ℕ) (s : Stop) → NeededUntil settled files reads new_reads s → StopTold rose err new_err code s → settled →
      (new_reads ≡ reads ++ files) ⊎ ((code ≡ 4) ⊎ (code ≡ 8))
  needed_exactly rose err new_err code (Refuses refusal) h t now = inl (h.1 now)
  needed_exactly rose err new_err code (File path) h (inl t) now = inr (inl t.0)
  needed_exactly rose err new_err code (File path) h (inr t) now = inr (inr t.0)
  needed_exactly rose err new_err code Output h t now = inl h
  needed_exactly rose err new_err code Log h t now = inl h
  needed_exactly rose err new_err code Memory h t now = inr (inr t.0)

  pub line_needed_front : (why : LineStop) → LineNeededUntil settled files reads new_reads why → ReadFront files reads new_reads
  line_needed_front (line_stop.File path) h = h
  line_needed_front line_stop.TooLong h = h.0
  line_needed_front (line_stop.Bad bad) h = h.0
  line_needed_front line_stop.Memory h = h

  pub line_needed_exactly : (rose : Type 0) (err new_err : Option (List ℕ)) (code : ℕ) (why : LineStop) (stop : Stop) → LineNeededUntil settled files reads new_reads why → IsToldAs why stop →
      StopTold rose err new_err code stop → settled → (new_reads ≡ reads ++ files) ⊎ ((code ≡ 4) ⊎ (code ≡ 8))
  line_needed_exactly rose err new_err code (line_stop.File path) stop h same t now = by (file_told rose err new_err code (string_bytes path) stop same t)
    where
      by : IsTold 4 (file_line (string_bytes path)) rose err new_err code → (new_reads ≡ reads ++ files) ⊎ ((code ≡ 4) ⊎ (code ≡ 8))
      by (inl told) = inr (inl told.0)
      by (inr told) = inr (inr told.0)
  line_needed_exactly rose err new_err code line_stop.TooLong stop h same t now = inl (h.1 now)
  line_needed_exactly rose err new_err code (line_stop.Bad bad) stop h same t now = inl (h.1 now)
  line_needed_exactly rose err new_err code line_stop.Memory stop h same t now =
      let m = subst (λ (s : Stop). StopTold rose err new_err code s) same t in inr (inr m.0)
