-- How a recording goes on.
use Rattle.std.proofs.Common.{◌≡◌, ◌≢◌, ◌≤◌, ◌<◌, ◌+◌, ℕ, zero, suc, List, [], ◌∷◌, ◌++◌, Bool, true, ◌&&◌, Option, None, Some, Result, Ok, Err, OnOk, IfSome, refl, ap, ap₂, sym, ◌∙◌, subst, length, take, arith, append_assoc, append-nil, length-append}
use Rattle.std.specs.List.{list_all}
use Rattle.std.proofs.lemmas.List.{take-append-le}
use Rattle.link_traits.specs.Journals.{Journal}
use Rattle.link_traits.specs.Entries.{Entry}
use Rattle.link_traits.specs.Views.{NetView, Adds, FilesView}
use Rattle.link_traits.specs.Told.{added, Rose}
use Rattle.link_traits.specs.Answers.{listen_entry, accept_entry}
use Rattle.link_traits.specs.declared.links.Accepted.{Accepted}
use Rattle.link_traits.specs.declared.links.Accepted.TheVariants as accepted
use Rattle.link_traits.specs.declared.links.NetFault.{NetFault}
use Rattle.link_traits.specs.declared.links.NetFault.TheVariants as net_fault
use Rattle.link_traits.specs.declared.outside.FileFault.{FileFault}
use Rattle.link_traits.specs.declared.outside.FileFault.TheVariants.{Failed, TooLong}
use Rattle.record_net.specs.Fitting.{entry_fits}
use Rattle.record_net.specs.Records.{record_by, records_of, recorded, head}
use Rattle.record_net.specs.Tapes.{Tape, Puts}
use Rattle.record_net.specs.Starts.{Start, start_of, IsRecording}
use Rattle.record_net.proofs.Putting.{put_nothing}

-- if something is known after more bytes, it was known before
added_some : (more : List ℕ) (o : Option (List ℕ)) (bytes : List ℕ) → added more o ≡ Some bytes → (b : List ℕ) × (o ≡ Some b) × (bytes ≡ b ++ more)
added_some more None bytes e = absurd (cc)
added_some more (Some b) bytes e = (b, refl, cc)

take_second : (n : ℕ) (xs ys : List ℕ) → take (length xs + n) (xs ++ ys) ≡ xs ++ take n ys
take_second n [] ys = let e : 0 + n ≡ n = omega arith in ap (λ k. take k ys) e
take_second n (x ∷ xs) ys =
    let e : suc (length xs) + n ≡ suc (length xs + n) = omega arith in
    ap (λ k. take k (x ∷ xs ++ ys)) e ∙ ap (λ t. x ∷ t) (take_second n xs ys)

length-take_le : (n : ℕ) (xs : List ℕ) → n ≤ length xs → length (take n xs) ≡ n
length-take_le zero xs le = refl
length-take_le (suc n) [] le = absurd (omega arith)
length-take_le (suc n) (x ∷ xs) le = ap suc (length-take_le n xs (omega arith))

-- the newest entry since the start is the one that was added
pub split : (since before old : Journal) (entry : Entry) → since ++ before ≡ entry ∷ old → length before ≤ length old →
    (earlier : Journal) × (since ≡ entry ∷ earlier) × (old ≡ earlier ++ before)
split [] before old entry e le = absurd (omega (arith, ap length e))
split (x ∷ since) before old entry e le = (since, cc, cc)

no_more : (since before : Journal) → before ≡ since ++ before → since ≡ []
no_more [] before e = refl
no_more (x ∷ since) before e = absurd (omega (arith, ap length e, length-append (x ∷ since) before))

pub recorded-next : (earlier : Journal) (entry : Entry) → recorded (entry ∷ earlier) ≡ recorded earlier ++ record_by entry
recorded-next earlier entry = sym (append_assoc head (records_of earlier) (record_by entry))

-- what is known of an entry that is added, from the journal before it
abbrev pub FitsAfter : NetView → Entry → Type 0
FitsAfter old entry = (before : Journal) → old.journal ≡ Some before → entry_fits entry ≡ true

-- ---- one entry more

module _ (start : Start) (old new : NetView) (t0 t1 : Tape) (entry : Entry) (was : IsRecording start old.journal t0) (adds : Adds old new (entry ∷ []))
    (puts : Puts start.path (record_by entry) t0 t1) (fits : FitsAfter old entry) where
  -- what was since the start, and its place before the entry
  record Earlier (before since : Journal) : Type 0 where
    earlier : Journal
    is : since ≡ entry ∷ earlier
    told : old.journal ≡ Some (earlier ++ before)

  earlier_of : (before since : Journal) → start.journal ≡ Some before → new.journal ≡ Some (since ++ before) → Earlier before since
  earlier_of before since b n =
      let t = adds.told (since ++ before) n in
      let s = split since before t.0 entry t.2 (was.longer before t.0 b t.1) in
      record { earlier = s.0; is = s.1; told = t.1 ∙ ap Some s.2 }

  longer : (before now : Journal) → start.journal ≡ Some before → new.journal ≡ Some now → length before ≤ length now
  longer before now b n =
      let t = adds.told now n in
      omega (arith, was.longer before t.0 b t.1, ap length t.2)

  whole : (before since : Journal) (bytes : List ℕ) → start.journal ≡ Some before → new.journal ≡ Some (since ++ before) →
      t1.files.told start.path ≡ Some bytes → t1.failed ≡ None → bytes ≡ recorded since
  whole before since bytes b n told none =
      let s = earlier_of before since b n in
      let p = puts.whole none in
      let o = added_some (record_by entry) (t0.files.told start.path) bytes (sym p.1 ∙ told) in
      let first : o.0 ≡ recorded s.earlier = was.whole before s.earlier o.0 b s.told o.1 p.0 in
      o.2 ∙ ap (λ (l : List ℕ). l ++ record_by entry) first ∙ sym (recorded-next s.earlier entry) ∙ sym (ap recorded s.is)

  fit : (before since : Journal) → start.journal ≡ Some before → new.journal ≡ Some (since ++ before) → list_all entry_fits since ≡ true
  fit before since b n =
      let s = earlier_of before since b n in
      ap (list_all entry_fits) s.is
      ∙ ap₂ (λ (x y : Bool). x && y) (fits (s.earlier ++ before) s.told) (was.fit before s.earlier b s.told)

  -- a prefix of what was recorded before, or of that and the entry's record, lacks some bytes of both
  IsPart : List ℕ → List ℕ → Type 0
  IsPart bytes all = (length bytes < length all) × (bytes ≡ take (length bytes) all)

  abbrev Was : Option FileFault → Type 0
  Was failed = t0.failed ≡ failed

  part_of : (failed : Option FileFault) → t0.failed ≡ failed → (before since : Journal) (bytes : List ℕ) (fault : FileFault) → start.journal ≡ Some before → new.journal ≡ Some (since ++ before) →
      t1.files.told start.path ≡ Some bytes → t1.failed ≡ Some fault → (length bytes < length (recorded since)) × (bytes ≡ take (length bytes) (recorded since))
  part_of (Some first) f0 before since bytes fault b n told some =
      let s = earlier_of before since b n in
      let same : t1 ≡ t0 = puts.stays first f0 in
      let p = was.part before s.earlier bytes first b s.told (sym (ap (λ (t : Tape). t.files.told start.path) same) ∙ told) f0 in
      let whole_is : recorded since ≡ recorded s.earlier ++ record_by entry = ap recorded s.is ∙ recorded-next s.earlier entry in (
        omega (arith, p.0, ap length whole_is, length-append (recorded s.earlier) (record_by entry)),
        p.1 ∙ sym (take-append-le (length bytes) (recorded s.earlier) (record_by entry) (omega (arith, p.0))) ∙ sym (ap (take (length bytes)) whole_is),
      )
  part_of None f0 before since bytes fault b n told some =
      let s = earlier_of before since b n in
      let cut = puts.part fault f0 some in
      let o = added_some (take cut.count (record_by entry)) (t0.files.told start.path) bytes (sym cut.got ∙ told) in
      let first : o.0 ≡ recorded s.earlier = was.whole before s.earlier o.0 b s.told o.1 f0 in
      let whole_is : recorded since ≡ recorded s.earlier ++ record_by entry = ap recorded s.is ∙ recorded-next s.earlier entry in
      let bytes_is : bytes ≡ recorded s.earlier ++ take cut.count (record_by entry) = o.2 ∙ ap (λ (l : List ℕ). l ++ take cut.count (record_by entry)) first in
      let len : length bytes ≡ length (recorded s.earlier) + cut.count =
      ap length bytes_is ∙ length-append (recorded s.earlier) (take cut.count (record_by entry))
      ∙ ap (λ (k : ℕ). length (recorded s.earlier) + k) (length-take_le cut.count (record_by entry) (omega (arith, cut.lacks))) in (
        omega (arith, len, cut.lacks, ap length whole_is, length-append (recorded s.earlier) (record_by entry)),
        bytes_is ∙ sym (take_second cut.count (recorded s.earlier) (record_by entry))
            ∙ sym (ap₂ (λ (k : ℕ) (l : List ℕ). take k l) len whole_is),
      )

  cause_of : (failed : Option FileFault) → t0.failed ≡ failed → t1.failed ≡ Some Failed → Rose start.files.faults t1.files.faults
  cause_of (Some first) f0 some =
      let same : t1 ≡ t0 = puts.stays first f0 in
      subst (λ (t : Tape). Rose start.files.faults t.files.faults) (sym same) (was.cause (sym (ap (λ (t : Tape). t.failed) same) ∙ some))
  cause_of None f0 some =
      let rose = puts.cause f0 some in
      let le = was.count in
      λ below. omega (arith, rose below)

  short_of : (failed : Option FileFault) → t0.failed ≡ failed → t1.failed ≢ Some TooLong
  short_of (Some first) f0 long = was.short (sym (ap (λ (t : Tape). t.failed) (puts.stays first f0)) ∙ long)
  short_of None f0 long = puts.short f0 long

  pub goes_on : IsRecording start new.journal t1
  goes_on = record {
    longer = longer;
    whole = whole;
    part = part_of t0.failed refl;
    fit = fit;
    cause = cause_of t0.failed refl;
    short = short_of t0.failed refl;
    others = λ p n. puts.others p n ∙ was.others p n;
    count = omega (arith, puts.count, was.count);
    unread = puts.unread ∙ was.unread;
  }

-- .. if the path is known by an equation
pub goes_on_at : (start : Start) (old new : NetView) (t0 t1 : Tape) (entry : Entry) (path : List ℕ) → IsRecording start old.journal t0 → Adds old new (entry ∷ []) →
    path ≡ start.path → Puts path (record_by entry) t0 t1 → FitsAfter old entry → IsRecording start new.journal t1
goes_on_at start old new t0 t1 entry path was adds same puts fits =
    goes_on start old new t0 t1 entry was adds (subst (λ (p : List ℕ). Puts p (record_by entry) t0 t1) same puts) fits

-- ---- no entry more

pub stays : (start : Start) (old new : NetView) (t : Tape) → IsRecording start old.journal t → Adds old new [] → IsRecording start new.journal t
stays start old new t was adds = record {
  longer = λ before now b n. let a = adds.told now n in omega (arith, was.longer before a.0 b a.1, ap length a.2);
  whole = λ before since bytes b n told none. let a = adds.told (since ++ before) n in was.whole before since bytes b (a.1 ∙ ap Some (sym a.2)) told none;
  part = λ before since bytes fault b n told some. let a = adds.told (since ++ before) n in was.part before since bytes fault b (a.1 ∙ ap Some (sym a.2)) told some;
  fit = λ before since b n. let a = adds.told (since ++ before) n in was.fit before since b (a.1 ∙ ap Some (sym a.2));
  cause = was.cause;
  short = was.short;
  others = was.others;
  count = was.count;
  unread = was.unread;
}

-- an entry more that gives no record
pub goes_on_silently : (start : Start) (old new : NetView) (t : Tape) (entry : Entry) → IsRecording start old.journal t → Adds old new (entry ∷ []) → record_by entry ≡ [] →
    FitsAfter old entry → IsRecording start new.journal t
goes_on_silently start old new t entry was adds silent fits =
    goes_on start old new t t entry was adds (subst (λ (bytes : List ℕ). Puts start.path bytes t t) (sym silent) (put_nothing start.path t.files t.failed)) fits

pub silent_listen : (path : List ℕ) (answer : Result ℕ NetFault) → record_by (listen_entry path answer) ≡ []
silent_listen path (Ok listener) = refl
silent_listen path (Err net_fault.Failed) = refl
silent_listen path (Err net_fault.Memory) = refl

pub silent_accept : (listener : ℕ) (answer : Accepted) → record_by (accept_entry listener answer) ≡ []
silent_accept listener (accepted.New session) = refl
silent_accept listener accepted.NotReady = refl
silent_accept listener accepted.Failed = refl
silent_accept listener accepted.Memory = refl

-- ---- the start

pub starts : (journal : Option Journal) (old new : FilesView) (path : List ℕ) →
    ((bytes : List ℕ) → new.told path ≡ Some bytes → bytes ≡ head) → ((p : List ℕ) → p ≢ path → new.told p ≡ old.told p) → old.faults ≤ new.faults → new.reads ≡ old.reads →
    IsRecording (start_of journal old path) journal (record { files = new; failed = None })
starts journal old new path is others count unread = record {
  longer = λ before now b n. let e : Some before ≡ Some now = sym b ∙ n in let same : before ≡ now = cc in omega (arith, ap length same);
  whole = λ before since bytes b n told none.
      let e : Some before ≡ Some (since ++ before) = sym b ∙ n in
      let same : before ≡ since ++ before = cc in
      is bytes told ∙ sym (append-nil head) ∙ sym (ap recorded (no_more since before same));
  part = λ before since bytes fault b n told some. absurd (cc);
  fit = λ before since b n.
      let e : Some before ≡ Some (since ++ before) = sym b ∙ n in
      let same : before ≡ since ++ before = cc in
      ap (list_all entry_fits) (no_more since before same);
  cause = λ some. absurd (cc);
  short = λ some. absurd (cc);
  others = others;
  count = count;
  unread = unread;
}

if_some_at : (P : List ℕ → Type 0) (o : Option (List ℕ)) (bytes : List ℕ) → IfSome o P → o ≡ Some bytes → P bytes
if_some_at P None bytes h e = absurd (cc)
if_some_at P (Some b) bytes h e = let same : b ≡ bytes = cc in subst P same h

-- .. after an answer Ok
pub starts_if : (answer : Result (Unit {0}) FileFault) (old new : FilesView) (path : List ℕ) → OnOk answer (IfSome (new.told path) (λ bytes. bytes ≡ head)) →
    ((p : List ℕ) → p ≢ path → new.told p ≡ old.told p) → old.faults ≤ new.faults → new.reads ≡ old.reads →
    OnOk answer ((journal : Option Journal) → IsRecording (start_of journal old path) journal (record { files = new; failed = None }))
starts_if (Ok u) old new path is others count unread = λ journal. starts journal old new path (λ bytes told. if_some_at (λ b. b ≡ head) (new.told path) bytes is told) others count unread
starts_if (Err fault) old new path is others count unread = tt
