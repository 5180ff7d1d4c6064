-- The first of the times at which links are due, found one link after the other.
use Rattle.std.proofs.Common.{ℕ, nat_eq, ◌≡◌, ◌≤◌, ◌⊎◌, inl, inr, Bool, true, false, ◌||◌, List, [], ◌∷◌, ◌++◌, Option, Some, None, IfSome, refl, ap, ◌∙◌, sym, subst, arith}
use Rattle.std.specs.List.{list_any}
use Rattle.std.specs.Time.{instant_nanos}
use Rattle.std.specs.declared.time.Instant.{Instant}
use Rattle.std.proofs.lemmas.List.Folds.{list_any-append}
use Rattle.std.proofs.lemmas.Bool.Decides.{nat_tests}
use Rattle.proxy_net.specs.Sockets.{due_at, IsBy, IsFirstDue}
use Rattle.proxy_net.specs.declared.sockets.SocketSet.{SocketSet}

any_push : (p : ℕ → Bool) (ns : List ℕ) (n : ℕ) → list_any p (ns ++ n ∷ []) ≡ (list_any p ns || p n)
any_push p ns n = list_any-append p ns (n ∷ []) ∙ ap (λ (b : Bool). list_any p ns || b) (or_none (p n))
  where
    or_none : (b : Bool) → b || false ≡ b
    or_none true = refl
    or_none false = refl

module _ {T L : Type 0} (sockets : SocketSet T L) where
  pub none_due : IsFirstDue sockets [] None
  none_due = record { by = λ number due among at. cc; one = λ time e. cc }

  among_more : (ns : List ℕ) (n number : ℕ) → list_any (nat_eq number) (ns ++ n ∷ []) ≡ true → (list_any (nat_eq number) ns ≡ true) ⊎ (number ≡ n)
  among_more ns n number e = by (list_any (nat_eq number) ns) (nat_eq number n) refl refl (sym (any_push (nat_eq number) ns n) ∙ e)
    where
      by : (a b : Bool) → list_any (nat_eq number) ns ≡ a → nat_eq number n ≡ b → a || b ≡ true → (list_any (nat_eq number) ns ≡ true) ⊎ (number ≡ n)
      by true b f g h = inl f
      by false true f g h = inr (grind (arith, nat_tests, g))
      by false false f g h = cc

  among_before : (ns : List ℕ) (n number : ℕ) → list_any (nat_eq number) ns ≡ true → list_any (nat_eq number) (ns ++ n ∷ []) ≡ true
  among_before ns n number e = any_push (nat_eq number) ns n ∙ ap (λ (b : Bool). b || nat_eq number n) e

  among_last : (ns : List ℕ) (n : ℕ) → list_any (nat_eq n) (ns ++ n ∷ []) ≡ true
  among_last ns n = any_push (nat_eq n) ns n ∙ by (list_any (nat_eq n) ns) (nat_eq n n) (grind (arith, nat_tests))
    where
      by : (a b : Bool) → b ≡ true → a || b ≡ true
      by true b e = refl
      by false b e = e

  -- a link that isn't due
  pub not_due : (ns : List ℕ) (n : ℕ) (first : Option Instant) → IsFirstDue sockets ns first → due_at sockets n ≡ None → IsFirstDue sockets (ns ++ n ∷ []) first
  not_due ns n first f none = record {
    by = λ number due among at. elim (among_more ns n number among) [
      | inl before ↦ f.by number due before at
      | inr same ↦ absurd (let no : None ≡ Some due = sym none ∙ ap (due_at sockets) (sym same) ∙ at in cc)
    ];
    one = λ time e. let o = f.one time e in (o.0, among_before ns n o.0 o.1, o.2);
  }

  -- .. and one that is
  pub one_due : (ns : List ℕ) (n : ℕ) (first : Option Instant) (own earliest : Instant) → IsFirstDue sockets ns first → due_at sockets n ≡ Some own
      → IfSome first (λ t. instant_nanos earliest ≤ instant_nanos t) → instant_nanos earliest ≤ instant_nanos own → (earliest ≡ own) ⊎ (first ≡ Some earliest) → IsFirstDue sockets (ns ++ n ∷ []) (Some earliest)
  one_due ns n first own earliest f at before after one = record {
    by = λ number due among own_at. elim (among_more ns n number among) [
      | inl earlier ↦ sooner first before due (f.by number due earlier own_at)
      | inr same ↦ subst (λ (d : Instant). instant_nanos earliest ≤ instant_nanos d) (let e : Some own ≡ Some due = sym at ∙ ap (due_at sockets) (sym same) ∙ own_at in same_time own due e) after
    ];
    one = λ time e. elim one [
      | inl same ↦ (n, among_last ns n, at ∙ ap some_time (sym same) ∙ e)
      | inr same ↦ let o = f.one time (same ∙ e) in (o.0, among_before ns n o.0 o.1, o.2)
    ];
  }
    where
      some_time : Instant → Option Instant
      some_time t = Some t

      same_time : (a b : Instant) → Some a ≡ Some b → a ≡ b
      same_time a b e = cc

      sooner : (o : Option Instant) → IfSome o (λ t. instant_nanos earliest ≤ instant_nanos t) → (due : Instant) → IsBy due o → instant_nanos earliest ≤ instant_nanos due
      sooner None h due b = absurd b
      sooner (Some t) h due b = omega (arith, h, b)
