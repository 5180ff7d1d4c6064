-- What is noted of the system's reports, one report after the other.
use Rattle.std.proofs.Common.{◌≡◌, nat_lt, ◌-◌, Bool, true, false, not, ◌&&◌, ◌||◌, cond, List, [], ◌∷◌, refl}
use Rattle.std.specs.List.{list_all}
use Rattle.proxy_net.specs.declared.reports.Report.{Report}
use Rattle.proxy_net.specs.Noting.{is_bus_number, same_side}
use Rattle.proxy_net.specs.Registering.{listeners_from}
use Rattle.proxy_net.specs.Sockets.{KeepsNotes, is_report_noted, is_side_noted}
use Rattle.proxy_net.specs.declared.sockets.SocketSet.{SocketSet}

pub notes_kept : {T L : Type 0} → (a : SocketSet T L) → KeepsNotes a a
notes_kept a = record { links = λ number readable writable ending noted. noted; listeners = λ place noted. noted }

pub notes_through : {T L : Type 0} → {a b c : SocketSet T L} → KeepsNotes a b → KeepsNotes b c → KeepsNotes a c
notes_through p q = record {
  links = λ number readable writable ending noted. q.links number readable writable ending (p.links number readable writable ending noted);
  listeners = λ place noted. q.listeners place (p.listeners place noted);
}

chosen_kept : (b : Bool) (x y x' y' : Bool) → (x ≡ true → x' ≡ true) → (y ≡ true → y' ≡ true) → cond b x y ≡ true → cond b x' y' ≡ true
chosen_kept true x y x' y' f g e = f e
chosen_kept false x y x' y' f g e = g e

pub or_kept : (b x y : Bool) → (x ≡ true → y ≡ true) → b || x ≡ true → b || y ≡ true
or_kept true x y f e = refl
or_kept false x y f e = f e

both : (x y : Bool) → x ≡ true → y ≡ true → x && y ≡ true
both true y e f = f
both false y e f = cc

left_of : (x y : Bool) → x && y ≡ true → x ≡ true
left_of true y e = refl
left_of false y e = e

right_of : (x y : Bool) → x && y ≡ true → y ≡ true
right_of true y e = e
right_of false y e = cc

-- what is noted of an report stays noted
pub report_kept : {T L : Type 0} → (a b : SocketSet T L) → KeepsNotes a b → (report : Report) → is_report_noted a report ≡ true → is_report_noted b report ≡ true
report_kept a b kept report = chosen_kept (nat_lt report.number listeners_from) _ _ _ _
    (kept.links report.number report.readable report.writable report.ending) (kept.listeners (report.number - listeners_from))

side_kept : {T L : Type 0} → (of_buses : Bool) (a b : SocketSet T L) → KeepsNotes a b → (report : Report) → is_side_noted of_buses a report ≡ true → is_side_noted of_buses b report ≡ true
side_kept of_buses a b kept report = or_kept (not (same_side (is_bus_number report.number) of_buses)) (is_report_noted a report) (is_report_noted b report) (report_kept a b kept report)

-- a report of this side that is noted, before others of which those of this side are
pub one_more : {T L : Type 0} → (of_buses : Bool) (now after : SocketSet T L) → KeepsNotes now after → (report : Report) (rest : List Report) → is_side_noted of_buses now report ≡ true
    → list_all (is_side_noted of_buses after) rest ≡ true → list_all (is_side_noted of_buses after) (report ∷ rest) ≡ true
one_more of_buses now after kept report rest noted others = both _ _ (side_kept of_buses now after kept report noted) others

-- a report of this side
pub this_side : {T L : Type 0} → (of_buses : Bool) (now : SocketSet T L) (report : Report) → is_report_noted now report ≡ true → is_side_noted of_buses now report ≡ true
this_side of_buses now report noted = by (not (same_side (is_bus_number report.number) of_buses)) (is_report_noted now report) noted
  where
    by : (b x : Bool) → x ≡ true → b || x ≡ true
    by true x e = refl
    by false x e = e

-- a report of the other side
pub other_side : {T L : Type 0} → (of_buses : Bool) (now : SocketSet T L) (report : Report) → same_side (is_bus_number report.number) of_buses ≡ false → is_side_noted of_buses now report ≡ true
other_side of_buses now report differs = by (same_side (is_bus_number report.number) of_buses) (is_report_noted now report) differs
  where
    by : (b x : Bool) → b ≡ false → not b || x ≡ true
    by true x e = cc
    by false x e = refl

-- what is noted of both sides is noted of all
pub both_sides : {T L : Type 0} → (now after : SocketSet T L) → KeepsNotes now after → (reports : List Report) → list_all (is_side_noted false now) reports ≡ true → list_all (is_side_noted true after) reports ≡ true → list_all (is_report_noted after) reports ≡ true
both_sides now after kept [] others buses = refl
both_sides now after kept (report ∷ reports) others buses =
    both _ _
    (by (is_bus_number report.number) (is_report_noted now report) (is_report_noted after report) (report_kept now after kept report) (left_of _ _ others) (left_of _ _ buses))
    (both_sides now after kept reports (right_of _ _ others) (right_of _ _ buses))
  where
    by : (b x y : Bool) → (x ≡ true → y ≡ true) → not (same_side b false) || x ≡ true → not (same_side b true) || y ≡ true → y ≡ true
    by true x y f e g = g
    by false x y f e g = f e

-- .. and stays so
pub all_kept : {T L : Type 0} → (a b : SocketSet T L) → KeepsNotes a b → (reports : List Report) → list_all (is_report_noted a) reports ≡ true → list_all (is_report_noted b) reports ≡ true
all_kept a b kept [] noted = refl
all_kept a b kept (report ∷ reports) noted = both _ _ (report_kept a b kept report (left_of _ _ noted)) (all_kept a b kept reports (right_of _ _ noted))
