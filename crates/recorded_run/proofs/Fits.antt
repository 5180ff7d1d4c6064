-- A file can have what is recorded of a proxy's net.
use Rattle.std.proofs.Common.{ℕ, nat_eq, nat_le, ◌≡◌, ◌≤◌, ◌<◌, ◌⊎◌, inl, inr, ◌^◌, Bool, true, false, ◌&&◌, ◌||◌, List, [], ◌∷◌, ◌++◌, Option, Some, None, Ok, All, length, refl, sym, ◌∙◌, subst, arith}
use Rattle.std.specs.List.{list_all}
use Rattle.std.proofs.lemmas.Bool.Decides.{nat_tests}
use Rattle.std.proofs.lemmas.List.Elements.{All-append, All-cons, All-nil}
use Rattle.link_traits.specs.Journals.{Journal}
use Rattle.link_traits.specs.Entries.{Entry, listened, ready, accepted, connected, read, finished, wrote, not_ready, failed, refused, shut}
use Rattle.link_traits.specs.declared.links.Side.{Side}
use Rattle.link_traits.specs.declared.links.Side.TheVariants.{Client, Bus}
use Rattle.link_traits.specs.declared.links.Call.{Call}
use Rattle.link_traits.specs.declared.links.Call.TheVariants.{Listen, Accept, Connect, Read, Write}
use Rattle.policy_args.specs.declared.line.Block.{Block}
use Rattle.proxy_loop.specs.Kinds.{some_of}
use Rattle.proxy_loop.specs.Servers.{touches, Fresh, listened_by, listener_of, StandsUnder, LinksStand, WithoutSessions}
use Rattle.proxy_loop.proofs.Holding.{some_append}
use Rattle.proxy_loop.proofs.Others.{Silent, quiet_entry}
use Rattle.recording.specs.declared.TheConstants.{RECORDING_LIMIT}
use Rattle.recording.specs.Sessions.{What, Stopped, SessionEvent, sessions_of, spelled_sessions}
use Rattle.recording.specs.SessionsSeen.{EventFits, EventsFit, WhatFits, what_size}
use Rattle.record_net.specs.declared.TheConstants.{READ_LIMIT}
use Rattle.record_net.specs.Fitting.{call_fits, entry_fits, is_short}
use Rattle.record_net.specs.Records.{came, ended, read_end, write_end, connect_end, recorded}
use Rattle.record_net.specs.Sessions.{item, failed_items, items_by, items_of}
use Rattle.recorded_run.specs.Recordings.{FitsFormat, IsWithinLimits, recording_of}
use Rattle.recorded_run.proofs.Histories.{or_first, or_second}

and_first : (x y : Bool) → x && y ≡ true → x ≡ true
and_first true y h = refl
and_first false y h = cc

and_second : (x y : Bool) → x && y ≡ true → y ≡ true
and_second true y h = h
and_second false y h = cc

-- ---- no session has the number 0

-- no listener accepts a session 0
hears_none : (entry : Entry) (before : Option ℕ) → entry_fits entry ≡ true → listened_by 0 entry before ≡ before
hears_none (accepted listener session) before h =
    let off : nat_eq session 0 ≡ false = grind (arith, nat_tests, h) in
    rw off refl
hears_none (listened listener path) before h = refl
hears_none (ready answer) before h = refl
hears_none (connected session path) before h = refl
hears_none (read link bytes) before h = refl
hears_none (finished link) before h = refl
hears_none (wrote link bytes) before h = refl
hears_none (not_ready call) before h = refl
hears_none (failed call) before h = refl
hears_none (refused call) before h = refl
hears_none (shut link) before h = refl

none_since : (since was : Journal) → list_all entry_fits since ≡ true → listener_of 0 (since ++ was) ≡ listener_of 0 was
unfolding listener_of
none_since [] was h = refl
none_since (entry ∷ since) was h =
    hears_none entry (listener_of 0 (since ++ was)) (and_first (entry_fits entry) (list_all entry_fits since) h)
    ∙ none_since since was (and_second (entry_fits entry) (list_all entry_fits since) h)

none_before : (n : ℕ) (journal : Journal) → Fresh n journal → listener_of n journal ≡ None
unfolding some_of listener_of
none_before n [] f = refl
none_before n (entry ∷ before) f =
    let silent : Silent n entry = quiet_entry n entry (or_first (touches n entry) (some_of (touches n) before) f) in
    silent.listener (listener_of n before) ∙ none_before n before (or_second (touches n entry) (some_of (touches n) before) f)

untouched : (blocks : List Block) (n : ℕ) (journal : Journal) → listener_of n journal ≡ None → Fresh n journal ⊎ StandsUnder blocks n journal → Fresh n journal
untouched blocks n journal none (inl f) = f
untouched blocks n journal none (inr s) = let e : Some s.listener ≡ None = sym s.accepted ∙ none in absurd (cc)

-- a server speaks of sessions that were accepted, and so of none of number 0
no_zero : (blocks : List Block) (was since : Journal) → WithoutSessions was → LinksStand blocks (since ++ was) → list_all entry_fits since ≡ true → Fresh 0 since
no_zero blocks was since none stands fit =
    let unheard : listener_of 0 (since ++ was) ≡ None = none_since since was fit ∙ none_before 0 was (none.fresh 0) in
    let fresh : Fresh 0 (since ++ was) = untouched blocks 0 (since ++ was) unheard (stands.each 0) in
    or_first (some_of (touches 0) since) (some_of (touches 0) was) (sym (some_append (touches 0) since was) ∙ fresh)

-- ---- events

-- a file can have the event, and one read may give its bytes
Recordable : SessionEvent → Type 0
Recordable e = EventFits e × (what_size e.what ≤ READ_LIMIT)

one : (e : SessionEvent) → Recordable e → All Recordable (e ∷ [])
one e r = All-cons Recordable e [] r (All-nil Recordable)

item_fits : (session : ℕ) (what : What) → nat_eq session 0 || false ≡ false → is_short session ≡ true → WhatFits what → what_size what ≤ READ_LIMIT → All Recordable (item session what ∷ [])
unfolding Recordable
item_fits session what named short fits size =
    let off : nat_eq session 0 ≡ false = or_first (nat_eq session 0) false named in
    let above : 0 < session = grind (arith, nat_tests, off) in
    let below : session < 2 ^ 32 = grind (arith, nat_tests, short) in
    one (item session what) (record { above_zero = above; below = below; what = fits }, size)

read_stops : (side : Side) → WhatFits (Stopped (read_end side))
read_stops Client = (omega arith, omega arith)
read_stops Bus = (omega arith, omega arith)

write_stops : (side : Side) → WhatFits (Stopped (write_end side))
write_stops Client = (omega arith, omega arith)
write_stops Bus = (omega arith, omega arith)

none : All Recordable []
none = All-nil Recordable

call_items : (call : Call) → call_fits call ≡ true → touches 0 (failed call) ≡ false → All Recordable (failed_items call)
call_items (Read link) fit t = item_fits link.session (Stopped (read_end link.side)) t fit (read_stops link.side) (omega arith)
call_items (Write link) fit t = item_fits link.session (Stopped (write_end link.side)) t fit (write_stops link.side) (omega arith)
call_items (Connect session) fit t = item_fits session (Stopped connect_end) t fit (omega arith, omega arith) (omega arith)
call_items (Accept listener) fit t = none
call_items Listen fit t = none

entry_items : (entry : Entry) → entry_fits entry ≡ true → touches 0 entry ≡ false → All Recordable (items_by entry)
entry_items (read link bytes) fit t =
    let most : nat_le (length bytes) READ_LIMIT ≡ true = and_second (is_short link.session) (nat_le (length bytes) READ_LIMIT) fit in
    let le : length bytes ≤ READ_LIMIT = grind (arith, nat_tests, most) in
    let lt : length bytes < 2 ^ 32 = omega (arith, le) in
    item_fits link.session (came link.side bytes) t (and_first (is_short link.session) (nat_le (length bytes) READ_LIMIT) fit) lt le
entry_items (finished link) fit t = item_fits link.session (ended link.side) t fit (omega arith) (omega arith)
entry_items (failed call) fit t = call_items call fit t
entry_items (listened listener path) fit t = none
entry_items (ready answer) fit t = none
entry_items (accepted listener session) fit t = none
entry_items (connected session path) fit t = none
entry_items (wrote link bytes) fit t = none
entry_items (not_ready call) fit t = none
entry_items (refused call) fit t = none
entry_items (shut link) fit t = none

journal_items : (since : Journal) → list_all entry_fits since ≡ true → Fresh 0 since → All Recordable (items_of since)
unfolding some_of
journal_items [] fit fresh = none
journal_items (entry ∷ before) fit fresh =
    All-append Recordable (items_of before) (items_by entry)
    (journal_items before (and_second (entry_fits entry) (list_all entry_fits before) fit) (or_second (touches 0 entry) (some_of (touches 0) before) fresh))
    (entry_items entry (and_first (entry_fits entry) (list_all entry_fits before) fit) (or_first (touches 0 entry) (some_of (touches 0) before) fresh))

pub fits : (blocks : List Block) (was since : Journal) → WithoutSessions was → LinksStand blocks (since ++ was) → list_all entry_fits since ≡ true → FitsFormat since
unfolding Recordable
fits blocks was since none stands fit =
    let all : All Recordable (items_of since) = journal_items since fit (no_zero blocks was since none stands fit) in
    record { each = λ k d lt. (all k d lt).0; short = λ k d lt. (all k d lt).1 }

-- ---- reading

-- where what is recorded is spelled, and is read again
pub read_back : ((journal : Journal) → recorded journal ≡ spelled_sessions (recording_of journal)) →
    ((journal : Journal) → EventsFit (items_of journal) → length (recorded journal) ≤ RECORDING_LIMIT → sessions_of (recorded journal) ≡ Ok (recording_of journal)) →
    (since : Journal) → FitsFormat since → IsWithinLimits since → sessions_of (recorded since) ≡ Ok (recording_of since)
read_back spelled again since fit within =
    again since (record { each = fit.each; few = within.sessions })
    (subst (λ (bytes : List ℕ). length bytes ≤ RECORDING_LIMIT) (sym (spelled since)) within.bytes)
