-- What is told of one session tells nothing of another, and sessions go on serving a journal.
use Rattle.std.proofs.Common.{ℕ, nat_eq, ◌≡◌, ◌≤◌, inl, inr, Bool, true, false, ◌&&◌, ◌||◌, not, List, [], ◌∷◌, ◌++◌, Option, Some, None, if◌then◌else◌, refl, ap, ◌∙◌, sym, subst, arith}
use Rattle.std.proofs.lemmas.Bool.Decides.{nat_tests}
use Rattle.link_traits.specs.Journals.{Journal, same_link, written_by, accepts, accepts_by}
use Rattle.link_traits.specs.Answers.{client_link, bus_link, read_entry}
use Rattle.link_traits.specs.Entries.{Entry, listened as Listened, ready as Ready, accepted as Accepted, connected as Connected, read as Read, finished as Finished, wrote as Wrote, not_ready as NotReady, failed as Failed, refused as Refused, shut as Shut}
use Rattle.link_traits.specs.declared.links.Side.{Side}
use Rattle.link_traits.specs.declared.links.Side.TheVariants.{Client, Bus}
use Rattle.link_traits.specs.declared.links.Link.{Link}
use Rattle.link_traits.specs.declared.links.Call.{Call}
use Rattle.link_traits.specs.declared.links.Call.TheVariants.{Listen as ListenCall, Accept as AcceptCall, Connect as ConnectCall, Read as ReadCall, Write as WriteCall}
use Rattle.policy_args.specs.declared.line.Block.{Block}
use Rattle.policy_view.specs.History.{Event}
use Rattle.proxy_loop.specs.declared.serving.Running.{Running}
use Rattle.proxy_loop.specs.Sessions.{events_of, events_by, failed_events, refused_events}
use Rattle.proxy_loop.specs.Kinds.{about, call_about, all_are, some_of, gone_by, gone_call, writes_of, is_read}
use Rattle.proxy_loop.specs.Works.{link_at}
use Rattle.proxy_loop.specs.Runs.{Served, ReadUnless}
use Rattle.proxy_loop.specs.Servers.{touches, Fresh, listened_by, listener_of, Held, Stays}
use Rattle.proxy_loop.proofs.KindCases.{read_cases, same_link_number, session_write_cases}
use Rattle.proxy_loop.proofs.Holding.{same_number, all_joined, moves_quiet}
use Rattle.proxy_loop.proofs.Joining.{all_implied, read_is}
use Rattle.proxy_loop.proofs.Stopping.{AllStops}
use Rattle.proxy_loop.proofs.Standing.{holds_moved}

-- an entry that tells session n nothing
pub record Silent (n : ℕ) (entry : Entry) : Type 0 where
  pub bus : written_by (bus_link n) entry ≡ []
  pub client : written_by (client_link n) entry ≡ []
  pub events : events_by n entry ≡ []
  pub client_gone : gone_by (client_link n) entry ≡ false
  pub bus_gone : gone_by (bus_link n) entry ≡ false
  pub listener : (before : Option ℕ) → listened_by n entry before ≡ before

and_first : (x y : Bool) → x && y ≡ true → x ≡ true
and_first true y h = refl
and_first false y h = cc

and_second : (x y : Bool) → x && y ≡ true → y ≡ true
and_second true y h = h
and_second false y h = cc

or_first : (x y : Bool) → x || y ≡ false → x ≡ false
or_first true y h = cc
or_first false y h = refl

or_second : (x y : Bool) → x || y ≡ false → y ≡ false
or_second true y h = cc
or_second false y h = h

turned : (a n : ℕ) → nat_eq a n ≡ false → nat_eq n a ≡ false
turned a n h = grind (arith, nat_tests)

differs : (a m n : ℕ) → nat_eq a m ≡ true → nat_eq m n ≡ false → nat_eq a n ≡ false
differs a m n h k = grind (arith, nat_tests)

off_link : (n : ℕ) (side : Side) (at : Link) → nat_eq at.session n ≡ false → same_link (link_at n side) at ≡ false
off_link n side at h = rw (turned at.session n h) refl

off_failed : (n : ℕ) (call : Call) → call_about n call ≡ false →
    (failed_events n call ≡ []) × (gone_call (client_link n) call ≡ false) × (gone_call (bus_link n) call ≡ false)
off_failed n (ReadCall at) h = (rw h refl, off_link n Client at h, off_link n Bus at h)
off_failed n (WriteCall at) h = (rw h refl, off_link n Client at h, off_link n Bus at h)
off_failed n (ConnectCall session) h = (rw h refl, off_link n Client (bus_link session) h, off_link n Bus (bus_link session) h)
off_failed n (AcceptCall listener) h = (refl, refl, refl)
off_failed n ListenCall h = (refl, refl, refl)

off_refused : (n : ℕ) (call : Call) → call_about n call ≡ false → refused_events n call ≡ []
off_refused n (ReadCall at) h = refl
off_refused n (WriteCall at) h = refl
off_refused n (ConnectCall session) h = rw h refl
off_refused n (AcceptCall listener) h = refl
off_refused n ListenCall h = refl

pub quiet_entry : (n : ℕ) (entry : Entry) → touches n entry ≡ false → Silent n entry
quiet_entry n (Wrote at bytes) h =
    let off : nat_eq at.session n ≡ false = or_first (nat_eq at.session n) false h in
    record { bus = rw (off_link n Bus at off) refl; client = rw (off_link n Client at off) refl; events = refl; client_gone = refl; bus_gone = refl; listener = λ o. refl }
quiet_entry n (Read at bytes) h =
    let off : nat_eq at.session n ≡ false = or_first (nat_eq at.session n) false h in
    record { bus = refl; client = refl; events = rw off refl; client_gone = refl; bus_gone = refl; listener = λ o. refl }
quiet_entry n (Finished at) h =
    let off : nat_eq at.session n ≡ false = or_first (nat_eq at.session n) false h in
    record { bus = refl; client = refl; events = rw off refl; client_gone = off_link n Client at off; bus_gone = off_link n Bus at off; listener = λ o. refl }
quiet_entry n (Shut at) h = record { bus = refl; client = refl; events = refl; client_gone = refl; bus_gone = refl; listener = λ o. refl }
quiet_entry n (NotReady call) h = record { bus = refl; client = refl; events = refl; client_gone = refl; bus_gone = refl; listener = λ o. refl }
quiet_entry n (Failed call) h =
    let off = off_failed n call (or_first (call_about n call) false h) in
    record { bus = refl; client = refl; events = off.0; client_gone = off.1; bus_gone = off.2; listener = λ o. refl }
quiet_entry n (Refused call) h =
    record { bus = refl; client = refl; events = off_refused n call (or_first (call_about n call) false h); client_gone = refl; bus_gone = refl; listener = λ o. refl }
quiet_entry n (Connected session path) h = record { bus = refl; client = refl; events = refl; client_gone = refl; bus_gone = refl; listener = λ o. refl }
quiet_entry n (Accepted listener session) h =
    let off : nat_eq session n ≡ false = h in
    record { bus = refl; client = refl; events = refl; client_gone = refl; bus_gone = refl; listener = λ o. rw off refl }
quiet_entry n (Listened listener path) h = record { bus = refl; client = refl; events = refl; client_gone = refl; bus_gone = refl; listener = λ o. refl }
quiet_entry n (Ready answer) h = record { bus = refl; client = refl; events = refl; client_gone = refl; bus_gone = refl; listener = λ o. refl }

-- what is told of session m is not told of another
other_call : (m n : ℕ) (call : Call) → call_about m call ≡ true → nat_eq m n ≡ false → call_about n call || false ≡ false
other_call m n (ReadCall at) h k = rw (differs at.session m n h k) refl
other_call m n (WriteCall at) h k = rw (differs at.session m n h k) refl
other_call m n (ConnectCall session) h k = rw (differs session m n h k) refl
other_call m n (AcceptCall listener) h k = refl
other_call m n ListenCall h k = refl

pub other_entry : (m n : ℕ) (entry : Entry) → about m entry ≡ true → nat_eq m n ≡ false → touches n entry ≡ false
other_entry m n (Wrote at bytes) h k = rw (differs at.session m n h k) refl
other_entry m n (Read at bytes) h k = rw (differs at.session m n h k) refl
other_entry m n (Finished at) h k = rw (differs at.session m n h k) refl
other_entry m n (Shut at) h k = rw (differs at.session m n h k) refl
other_entry m n (NotReady call) h k = other_call m n call h k
other_entry m n (Failed call) h k = other_call m n call h k
other_entry m n (Refused call) h k = other_call m n call h k
other_entry m n (Connected session path) h k = rw (differs session m n h k) refl
other_entry m n (Accepted listener session) h k = cc
other_entry m n (Listened listener path) h k = cc
other_entry m n (Ready answer) h k = cc

no_accept : (m : ℕ) (entry : Entry) → about m entry ≡ true → accepts_by entry ≡ 0
no_accept m (Wrote at bytes) h = refl
no_accept m (Read at bytes) h = refl
no_accept m (Finished at) h = refl
no_accept m (Shut at) h = refl
no_accept m (NotReady call) h = refl
no_accept m (Failed call) h = refl
no_accept m (Refused call) h = refl
no_accept m (Connected session path) h = refl
no_accept m (Accepted listener session) h = cc
no_accept m (Listened listener path) h = cc
no_accept m (Ready answer) h = cc

pub fresh_quiet : (n : ℕ) (entry : Entry) (journal : Journal) → touches n entry ≡ false → Fresh n journal → Fresh n (entry ∷ journal)
unfolding some_of
fresh_quiet n entry journal h f = rw (h, f) refl

pub held_quiet : (blocks : List Block) (n : ℕ) (running : Running) (entry : Entry) (journal : Journal) → Silent n entry →
    Held blocks n running journal → Held blocks n running (entry ∷ journal)
unfolding some_of listener_of events_of
held_quiet blocks n running entry journal s h = record {
  block = h.block;
  at = h.at;
  listener = s.listener (listener_of n journal) ∙ h.listener;
  mode = h.mode;
  holds = holds_moved h.block.options.policy n running.session running.session (entry ∷ []) journal (moves_quiet h.block.options.policy n running.session entry s.bus s.client s.events) (λ end e. e)
      refl (λ e. subst (λ (es : List Event). AllStops (es ++ [])) (sym s.events) refl) h.holds;
  client_gone = h.client_gone ∙ ap (λ (b : Bool). b || some_of (gone_by (client_link n)) journal) (sym s.client_gone);
  bus_gone = h.bus_gone ∙ ap (λ (b : Bool). b || some_of (gone_by (bus_link n)) journal) (sym s.bus_gone);
  known = let k : n ≤ accepts journal = h.known in omega (arith, k);
}

pub stays_quiet : (blocks : List Block) (n : ℕ) (at : Option Running) (entry : Entry) (journal : Journal) → touches n entry ≡ false →
    Stays blocks n at journal → Stays blocks n at (entry ∷ journal)
stays_quiet blocks n None entry journal s (inl f) = inl (fresh_quiet n entry journal s f)
stays_quiet blocks n None entry journal s (inr o) = inr (record { running = o.running; over = o.over; held = held_quiet blocks n o.running entry journal (quiet_entry n entry s) o.held })
stays_quiet blocks n (Some running) entry journal s h = held_quiet blocks n running entry journal (quiet_entry n entry s) h

-- what is told of session m changes nothing for another
pub stays_other : (blocks : List Block) (m n : ℕ) (at : Option Running) (added journal : Journal) → all_are (about m) added ≡ true → nat_eq m n ≡ false →
    Stays blocks n at journal → Stays blocks n at (added ++ journal)
unfolding all_are
stays_other blocks m n at [] journal a k s = s
stays_other blocks m n at (entry ∷ added) journal a k s =
    stays_quiet blocks n at entry (added ++ journal) (other_entry m n entry (and_first (about m entry) (all_are (about m) added) a) k)
    (stays_other blocks m n at added journal (and_second (about m entry) (all_are (about m) added) a) k s)

pub accepts_same : (m : ℕ) (added journal : Journal) → all_are (about m) added ≡ true → accepts (added ++ journal) ≡ accepts journal
unfolding all_are
accepts_same m [] journal a = refl
accepts_same m (entry ∷ added) journal a =
    let none : accepts_by entry ≡ 0 = no_accept m entry (and_first (about m entry) (all_are (about m) added) a) in
    let rest : accepts (added ++ journal) ≡ accepts journal = accepts_same m added journal (and_second (about m entry) (all_are (about m) added) a) in
    rw (none, rest) (omega arith)

about_listener : (m : ℕ) (entry : Entry) (before : Option ℕ) → about m entry ≡ true → listened_by m entry before ≡ before
about_listener m (Wrote at bytes) o h = refl
about_listener m (Read at bytes) o h = refl
about_listener m (Finished at) o h = refl
about_listener m (Shut at) o h = refl
about_listener m (NotReady call) o h = refl
about_listener m (Failed call) o h = refl
about_listener m (Refused call) o h = refl
about_listener m (Connected session path) o h = refl
about_listener m (Accepted listener session) o h = cc
about_listener m (Listened listener path) o h = cc
about_listener m (Ready answer) o h = cc

pub listener_same : (m : ℕ) (added journal : Journal) → all_are (about m) added ≡ true → listener_of m (added ++ journal) ≡ listener_of m journal
unfolding all_are listener_of
listener_same m [] journal a = refl
listener_same m (entry ∷ added) journal a =
    about_listener m entry (listener_of m (added ++ journal)) (and_first (about m entry) (all_are (about m) added) a)
    ∙ listener_same m added journal (and_second (about m entry) (all_are (about m) added) a)

-- what a turn does for one session is told of it alone
writes_about : (n : ℕ) (entry : Entry) → writes_of n entry ≡ true → about n entry ≡ true
writes_about n entry h = session_write_cases (λ (e : Entry). about n e ≡ true) n entry h (λ at bytes same. same) (λ at same. same) (λ at same. same)

read_about : (link : Link) (entry : Entry) → is_read link entry ≡ true → about link.session entry ≡ true
read_about link entry h =
    read_cases (λ (e : Entry). about link.session e ≡ true) link entry h (λ at bytes same. same_link_number link at same) (same_link_number link) (same_link_number link) (same_link_number link)

reads_about : (link : Link) (idle : Bool) (reads : Journal) → ReadUnless idle link reads → all_are (about link.session) reads ≡ true
unfolding all_are
reads_about link true reads e = rw e refl
reads_about link false reads r = rw (r.1.one, read_about link (read_entry link r.1.into r.1.answer) (read_is link r.1.into r.1.answer)) refl

pub shuts_about : (n : ℕ) (client bus : Bool) →
    all_are (about n) ((if bus then Shut (bus_link n) ∷ [] else []) ++ (if client then Shut (client_link n) ∷ [] else [])) ≡ true
unfolding all_are
shuts_about n true true = rw (same_number n) refl
shuts_about n true false = rw (same_number n) refl
shuts_about n false true = rw (same_number n) refl
shuts_about n false false = refl

pub served_about : (n : ℕ) (side : Side) (old new : Running) (added : Journal) → Served n side old new added → all_are (about n) added ≡ true
served_about n side old new added s =
    let first : all_are (about n) s.first ≡ true = all_implied (writes_of n) (about n) (writes_about n) s.first s.first_writes in
    let second : all_are (about n) s.second ≡ true = all_implied (writes_of n) (about n) (writes_about n) s.second s.second_writes in
    let shuts : all_are (about n) s.shuts ≡ true = ap (all_are (about n)) s.shut.is ∙ shuts_about n (not old.client.shut && new.client.shut) (not old.bus.shut && new.bus.shut) in
    ap (all_are (about n)) s.is
    ∙ all_joined (about n) (s.second ++ (s.reads ++ s.first)) s.shuts
    (all_joined (about n) (s.reads ++ s.first) s.second
    (all_joined (about n) s.first s.reads first (reads_about (link_at n side) _ s.reads s.once)) second) shuts
