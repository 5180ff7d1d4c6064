-- What holds of a run that was recorded.
use Rattle.std.proofs.Common.{ℕ, ◌≡◌, ◌≢◌, ◌≤◌, List, ◌++◌, Option, Some, Result, Ok, Err, IfOk, OnOk, ap, ◌∙◌, sym, subst, arith}
use Rattle.link_traits.specs.Journals.{Journal}
use Rattle.link_traits.specs.Views.{NetView, FilesView, SinkView}
use Rattle.policy_args.specs.declared.line.Block.{Block}
use Rattle.proxy_loop.specs.Servers.{LinksStand, WithoutSessions}
use Rattle.proxy_run.specs.Runs.{RunEnd}
use Rattle.recording.specs.Sessions.{sessions_of, spelled_sessions}
use Rattle.record_net.specs.Records.{recorded}
use Rattle.record_net.specs.Starts.{IsRecording, start_of}
use Rattle.record_net.specs.Tapes.{Tape}
use Rattle.recorded_run.specs.Recordings.{IsExact, IsReadBack, IsWithinLimits, recording_of}
use Rattle.recorded_run.specs.Runs.{RunServed, RunAdded}
use Rattle.recorded_run.proofs.Growing.{run_grows}

-- ---- answers

pub if_both : {A E : Type 0} (answer : Result A E) (P Q R : A → Type 0) → ((x : A) → P x → Q x → R x) → IfOk answer P → IfOk answer Q → IfOk answer R
if_both (Ok x) P Q R f p q = f x p q
if_both (Err e) P Q R f p q = tt

pub on_both : {A E : Type 0} (answer : Result A E) (P Q : A → Type 0) (R : Type 0) → ((x : A) → P x → Q x → R) → IfOk answer P → IfOk answer Q → OnOk answer R
on_both (Ok x) P Q R f p q = f x p q
on_both (Err e) P Q R f p q = tt

-- ---- a recording that began with files that were changed before it

pub began_before : (journal now : Option Journal) (old mid : FilesView) (path : List ℕ) (tape : Tape) → ((p : List ℕ) → p ≢ path → mid.told p ≡ old.told p) →
    old.faults ≤ mid.faults → mid.reads ≡ old.reads → IsRecording (start_of journal mid path) now tape → IsRecording (start_of journal old path) now tape
began_before journal now old mid path tape others count unread r = record {
  longer = r.longer;
  whole = r.whole;
  part = r.part;
  fit = r.fit;
  cause = λ failed. let rose = r.cause failed in let later = r.count in λ below. omega (arith, rose below);
  short = r.short;
  others = λ p n. r.others p n ∙ others p n;
  count = let later = r.count in omega arith;
  unread = r.unread ∙ unread;
}

-- ---- the same by other names

pub served_at : (blocks : List Block) (limit : ℕ) (before after old new : NetView) (first last : SinkView) (end : RunEnd) → before ≡ old → after ≡ new →
    RunServed blocks limit before after first last end → RunServed blocks limit old new first last end
served_at blocks limit before after old new first last end b a s =
    subst (λ (v : NetView). RunServed blocks limit v new first last end) b (subst (λ (v : NetView). RunServed blocks limit before v first last end) a s)

pub recording_at : (start start' now now' : Option Journal) (files : FilesView) (path path' : List ℕ) (tape tape' : Tape) → start ≡ start' → path ≡ path' → now ≡ now' → tape ≡ tape' →
    IsRecording (start_of start files path) now tape → IsRecording (start_of start' files path') now' tape'
recording_at start start' now now' files path path' tape tape' s p n t r =
    subst (λ (x : Tape). IsRecording (start_of start' files path') now' x) t
    (subst (λ (x : Option Journal). IsRecording (start_of start' files path') x tape) n
    (subst (λ (x : List ℕ). IsRecording (start_of start' files x) now tape) p
    (subst (λ (x : Option Journal). IsRecording (start_of x files path) now tape) s r)))

-- ---- the entries that were added

some_same : (a b : Journal) → Some a ≡ Some b → a ≡ b
some_same a b e = cc

module _ (blocks : List Block) (limit : ℕ) (before after : NetView) (first last : SinkView) (end : RunEnd) (s : RunServed blocks limit before after first last end) where
  abbrev Follows : (Journal → Journal → Type 0) → Type 0
  Follows Holds = (was since : Journal) → before.journal ≡ Some was → after.journal ≡ Some (since ++ was) →
      (WithoutSessions was → LinksStand blocks (since ++ was)) → Holds was since

  pub run_added : (Holds : Journal → Journal → Type 0) → Follows Holds → RunAdded before after Holds
  run_added Holds follows now told =
      let g = (run_grows blocks limit before after first last end s.did).each now told in
      let l = s.links.each now told in
      let same : l.0 ≡ g.0 = some_same l.0 g.0 (sym l.1 ∙ g.2) in
      let stands : WithoutSessions g.0 → LinksStand blocks (g.1 ++ g.0) =
      λ none. subst (λ (j : Journal). LinksStand blocks j) g.3 (l.2 (subst (λ (j : Journal). WithoutSessions j) (sym same) none)) in
      (g.0, g.1, g.2, g.3, follows g.0 g.1 g.2 (told ∙ ap Some g.3) stands)

-- ---- the file

module _ (spelled : (journal : Journal) → recorded journal ≡ spelled_sessions (recording_of journal)) (start : Option Journal) (files : FilesView) (path : List ℕ)
    (now : Option Journal) (tape : Tape) (r : IsRecording (start_of start files path) now tape) where
  pub exact : (was since : Journal) → start ≡ Some was → now ≡ Some (since ++ was) → IsExact (tape.files.told path) tape.failed since
  exact was since b n bytes told none = r.whole was since bytes b n told none ∙ spelled since

  pub read_back_of : (was since : Journal) → start ≡ Some was → now ≡ Some (since ++ was) →
      (IsWithinLimits since → sessions_of (recorded since) ≡ Ok (recording_of since)) → IsReadBack (tape.files.told path) tape.failed since
  read_back_of was since b n again within bytes told none =
      ap sessions_of (r.whole was since bytes b n told none) ∙ again within
