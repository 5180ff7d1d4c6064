-- What became readable since, one call after the other.
use Rattle.std.proofs.Common.{ℕ, ◌≡◌, Bool, true, false, ◌||◌, List, ◌∷◌, refl, ◌∙◌}
use Rattle.std.specs.List.{list_any}
use Rattle.proxy_net.specs.declared.reports.Report.{Report}
use Rattle.proxy_net.specs.Sockets.{IsReadIf, KeepsReports, StaysClosed, is_readable_at, is_pending_at}
use Rattle.proxy_net.specs.declared.sockets.SocketSet.{SocketSet}
use Rattle.proxy_net.proofs.Notes.{or_kept}

pub read_kept : {T L : Type 0} → (reported : ℕ → Bool) (a : SocketSet T L) → IsReadIf reported a a
read_kept reported a = record { each = λ number e. by (is_readable_at a number) (reported number || is_pending_at a number) e; pending = λ number e. e; closed = λ number e. e }
  where
    by : (x y : Bool) → x ≡ true → x || y ≡ true
    by true y e = refl
    by false y e = cc

-- what one call reports, and then another
pub read_through : {T L : Type 0} → {reported : ℕ → Bool} {a b c : SocketSet T L} → IsReadIf reported a b → IsReadIf reported b c → IsReadIf reported a c
read_through {reported} {a} {b} {c} p q = record {
  each = λ number e. by (is_readable_at b number) (reported number) (is_pending_at b number) (is_readable_at a number) (is_pending_at a number) (q.each number e) (p.each number) (p.pending number);
  pending = λ number e. p.pending number (q.pending number e);
  closed = λ number e. q.closed number (p.closed number e);
}
  where
    none : (x y : Bool) → y ≡ true → x || (true || y) ≡ true
    none true y e = refl
    none false y e = refl

    pends : (x r p : Bool) → p ≡ true → x || (r || p) ≡ true
    pends true r p e = refl
    pends false true p e = refl
    pends false false p e = e

    reports : (x r p : Bool) → r ≡ true → x || (r || p) ≡ true
    reports true r p e = refl
    reports false true p e = refl
    reports false false p e = cc

    by : (rb r pb ra pa : Bool) → rb || (r || pb) ≡ true → (rb ≡ true → ra || (r || pa) ≡ true) → (pb ≡ true → pa ≡ true) → ra || (r || pa) ≡ true
    by true r pb ra pa e f g = f refl
    by false true pb ra pa e f g = reports ra true pa refl
    by false false pb ra pa e f g = pends ra false pa (g e)

pub any_first : (p : Report → Bool) (report : Report) (rest : List Report) → p report ≡ true → list_any p (report ∷ rest) ≡ true
any_first p report rest e = by (p report) (list_any p rest) e
  where
    by : (x y : Bool) → x ≡ true → x || y ≡ true
    by true y e = refl
    by false y e = cc

pub any_later : (p : Report → Bool) (report : Report) (rest : List Report) → list_any p rest ≡ true → list_any p (report ∷ rest) ≡ true
any_later p report rest e = by (p report) (list_any p rest) e
  where
    by : (x y : Bool) → y ≡ true → x || y ≡ true
    by true y e = refl
    by false y e = e

-- less is reported
pub read_weaker : {T L : Type 0} → {less more : ℕ → Bool} {a b : SocketSet T L} → ((number : ℕ) → less number ≡ true → more number ≡ true) → IsReadIf less a b → IsReadIf more a b
read_weaker {less} {more} {a} {b} f p = record {
  each = λ number e. or_kept (is_readable_at a number) _ _ (by (less number) (more number) (is_pending_at a number) (f number)) (p.each number e);
  pending = p.pending;
  closed = p.closed;
}
  where
    by : (x y z : Bool) → (x ≡ true → y ≡ true) → x || z ≡ true → y || z ≡ true
    by true true z g e = refl
    by true false z g e = absurd (let no : false ≡ true = g refl in cc)
    by false true z g e = refl
    by false false z g e = e

pub reports_through : {T L : Type 0} → {a b c : SocketSet T L} → KeepsReports a b → KeepsReports b c → KeepsReports a c
reports_through p q = record { readable = λ number. q.readable number ∙ p.readable number; closed = λ number. q.closed number ∙ p.closed number; dues = λ number. q.dues number ∙ p.dues number }

pub reports_closed : {T L : Type 0} → {a b : SocketSet T L} → KeepsReports a b → StaysClosed a b
reports_closed p = record { each = λ number e. p.closed number ∙ e }

pub closed_through : {T L : Type 0} → {a b c : SocketSet T L} → StaysClosed a b → StaysClosed b c → StaysClosed a c
closed_through p q = record { each = λ number e. q.each number (p.each number e) }
