-- What is told of a session if nothing is read: failed calls, which end it.
use Rattle.std.proofs.Common.{ℕ, nat_eq, ◌≡◌, Bool, true, false, ◌&&◌, List, [], ◌∷◌, ◌++◌, if◌then◌else◌, refl, sym, subst}
use Rattle.std.specs.List.{list_all}
use Rattle.link_traits.specs.Journals.{Journal}
use Rattle.link_traits.specs.Answers.{client_link, bus_link}
use Rattle.link_traits.specs.Entries.{Entry, shut as Shut}
use Rattle.link_traits.specs.declared.links.Link.{Link}
use Rattle.policy_view.specs.declared.End.{End}
use Rattle.policy_view.specs.History.{Event, Stopped}
use Rattle.proxy_loop.specs.Sessions.{is_stop, events_of, events_by, write_end}
use Rattle.proxy_loop.specs.Kinds.{writes_of, all_are}
use Rattle.proxy_loop.specs.Works.{ShutBoth}
use Rattle.proxy_loop.specs.Runs.{ReadUnless}
use Rattle.proxy_loop.proofs.KindCases.{session_write_cases}
use Rattle.proxy_loop.proofs.Holding.{events_append}

abbrev pub AllStops : List Event → Type 0
AllStops events = list_all is_stop events ≡ true

and_both : (x y : Bool) → x ≡ true → y ≡ true → x && y ≡ true
and_both true y e f = f
and_both false y e f = cc

pub and_first : (x y : Bool) → x && y ≡ true → x ≡ true
and_first true y h = refl
and_first false y h = cc

pub and_second : (x y : Bool) → x && y ≡ true → y ≡ true
and_second true y h = h
and_second false y h = cc

pub stops_append : (a b : List Event) → AllStops a → AllStops b → AllStops (a ++ b)
stops_append [] b h k = k
stops_append (event ∷ a) b h k =
    and_both (is_stop event) (list_all is_stop (a ++ b)) (and_first (is_stop event) (list_all is_stop a) h) (stops_append a b (and_second (is_stop event) (list_all is_stop a) h) k)

one_if : (b : Bool) (end : End) → AllStops (if b then Stopped end ∷ [] else [])
one_if true end = refl
one_if false end = refl

write_stops : (n : ℕ) (entry : Entry) → writes_of n entry ≡ true → AllStops (events_by n entry)
write_stops n entry h =
    session_write_cases (λ (e : Entry). AllStops (events_by n e)) n entry h (λ at bytes same. refl) (λ at same. refl) (λ at same. one_if (nat_eq at.session n) (write_end at.side))

pub writes_stop : (n : ℕ) (added : Journal) → all_are (writes_of n) added ≡ true → AllStops (events_of n added)
unfolding all_are events_of
writes_stop n [] h = refl
writes_stop n (entry ∷ added) h =
    stops_append (events_by n entry) (events_of n added) (write_stops n entry (and_first (writes_of n entry) (all_are (writes_of n) added) h))
    (writes_stop n added (and_second (writes_of n entry) (all_are (writes_of n) added) h))

shut_stops : (n : ℕ) (client bus : Bool) → AllStops (events_of n ((if bus then Shut (bus_link n) ∷ [] else []) ++ (if client then Shut (client_link n) ∷ [] else [])))
unfolding events_of
shut_stops n true true = refl
shut_stops n true false = refl
shut_stops n false true = refl
shut_stops n false false = refl

pub shuts_stop : (n : ℕ) (client bus : Bool) (added : Journal) → ShutBoth n client bus added → AllStops (events_of n added)
shuts_stop n client bus added s = subst (λ (j : Journal). AllStops (events_of n j)) (sym s.is) (shut_stops n client bus)

pub unread_stop : (n : ℕ) (idle : Bool) (link : Link) (reads : Journal) → idle ≡ true → ReadUnless idle link reads → AllStops (events_of n reads)
unfolding events_of
unread_stop n true link reads e r = rw r refl
unread_stop n false link reads e r = cc

pub both_stop : (n : ℕ) (second first : Journal) → AllStops (events_of n second) → AllStops (events_of n first) → AllStops (events_of n (second ++ first))
both_stop n second first h k = subst (λ (es : List Event). AllStops es) (sym (events_append n second first)) (stops_append (events_of n second) (events_of n first) h k)
