-- A piece of a side's messages is processed outside a session in which none of their bytes are left, and its rest is
-- put back.
use Rattle.std.proofs.Common.{ℕ, ◌≡◌, ◌+◌, ◌*◌, ◌≤◌, false, true, List, [], ◌++◌, length, None, refl, ap, ap₂, ◌∙◌, sym, subst, arith, length-append}
use Rattle.std.specs.Prelude.{◌==◌}
use Rattle.policy_args.specs.Policy.{Policy}
use Rattle.policy_view.specs.declared.Mode.{Mode}
use Rattle.policy_view.specs.declared.Side.{Side}
use Rattle.policy_view.specs.declared.Side.TheVariants.{Client, Bus}
use Rattle.proxy_core.specs.Seen.{with_came, IsLent}
use Rattle.proxy_core.specs.Sessions.{SessionView, stream_of}
use Rattle.proxy_core.specs.Steps.{with_left, with_bytes, with_pushed, drained, weight, Took, IsLight}
use Rattle.proxy_core.specs.Streams.{InMessages}
use Rattle.proxy_core.proofs.Draining.{left_of, bytes_taken}

-- ---- the session without the piece

module _ (side : Side) (n : ℕ) (old out : SessionView) (is : out ≡ with_came side n old) where
  pub came_runs : old.ended ≡ None → out.ended ≡ None
  came_runs runs = ap (λ (v : SessionView). v.ended) is ∙ by side ∙ runs
    where
      by : (s : Side) → (with_came s n old).ended ≡ old.ended
      by Client = refl
      by Bus = refl

  pub came_lent : (stream_of side old).phase ≡ InMessages → (stream_of side old).left ≡ [] → IsLent side out
  came_lent phase none = record {
    phase = ap (λ (v : SessionView). (stream_of side v).phase) is ∙ phase_of side ∙ phase;
    none = ap (left_of side) is ∙ left_is side ∙ none;
  }
    where
      phase_of : (s : Side) → (stream_of s (with_came s n old)).phase ≡ (stream_of s old).phase
      phase_of Client = refl
      phase_of Bus = refl

      left_is : (s : Side) → left_of s (with_came s n old) ≡ left_of s old
      left_is Client = refl
      left_is Bus = refl

  pub came_filters : old.mode.filter ≡ true → out.mode.filter ≡ true
  came_filters filters = ap (λ (v : SessionView). v.mode.filter) is ∙ ap (λ (m : Mode). m.filter) (by side) ∙ filters
    where
      by : (s : Side) → (with_came s n old).mode ≡ old.mode
      by Client = refl
      by Bus = refl

-- ---- and with it

module _ (side : Side) (bytes : List ℕ) (old : SessionView) where
  piece_is : left_of side old ≡ [] → with_left side bytes (with_came side (length bytes) old) ≡ with_pushed side bytes old
  piece_is none = ap (λ (xs : List ℕ). with_left side (xs ++ bytes) (with_came side (length bytes) old)) (sym none) ∙ by side
    where
      by : (s : Side) → with_left s (left_of s old ++ bytes) (with_came s (length bytes) old) ≡ with_pushed s bytes old
      by Client = refl
      by Bus = refl

  left_with : left_of side old ≡ [] → left_of side (with_pushed side bytes old) ≡ bytes
  left_with none = by side ∙ ap (λ (xs : List ℕ). xs ++ bytes) none
    where
      by : (s : Side) → left_of s (with_pushed s bytes old) ≡ left_of s old ++ bytes
      by Client = refl
      by Bus = refl

  mode_with : (with_pushed side bytes old).mode ≡ old.mode
  mode_with = by side
    where
      by : (s : Side) → (with_pushed s bytes old).mode ≡ old.mode
      by Client = refl
      by Bus = refl

  watches_with : (with_pushed side bytes old).watches ≡ old.watches
  watches_with = by side
    where
      by : (s : Side) → (with_pushed s bytes old).watches ≡ old.watches
      by Client = refl
      by Bus = refl

-- it weighs nineteen for each byte
piece_weighs : (policy : Policy) (side : Side) (bytes : List ℕ) (old : SessionView) → weight policy (with_pushed side bytes old) ≡ weight policy old + 19 * length bytes
piece_weighs policy Client bytes old = by _ _ _ _ _ _ (length-append old.client.left bytes)
  where
    by : (sides whole left other own n : ℕ) → whole ≡ left + n → sides + 19 * (whole + other) + own ≡ sides + 19 * (left + other) + own + 19 * n
    by sides whole left other own n e = omega arith
piece_weighs policy Bus bytes old = by _ _ _ _ _ _ (length-append old.bus.left bytes)
  where
    by : (sides whole left other own n : ℕ) → whole ≡ left + n → sides + 19 * (other + whole) + own ≡ sides + 19 * (other + left) + own + 19 * n
    by sides whole left other own n e = omega arith

-- ---- messages are taken of it, and the rest is put back

module _ (policy : Policy) (side : Side) (bytes piece rest : List ℕ) (old out mid new : SessionView) (none : left_of side old ≡ []) (is : piece ≡ bytes) (came : out ≡ with_came side (length bytes) old) (put : new ≡ with_left side rest mid) where
  whole_is : with_left side piece out ≡ with_pushed side bytes old
  whole_is = ap₂ (λ (xs : List ℕ) (v : SessionView). with_left side xs v) is came ∙ piece_is side bytes old none

  put_back : (P : SessionView → SessionView → Type 0) → P (with_left side piece out) (with_left side rest mid) → P (with_pushed side bytes old) new
  put_back P p = subst (λ (v : SessionView). P v new) whole_is (subst (λ (v : SessionView). P (with_left side piece out) v) (sym put) p)

  pub piece_took : (length bytes == 0) ≡ false → Took policy side (drained policy side (length bytes + 2) (with_left side piece out)) (with_left side piece out) (with_left side rest mid)
      → Took policy side (with_bytes policy side bytes old) (with_pushed side bytes old) new
  piece_took some took =
      bytes_taken policy side bytes old (with_pushed side bytes old) new (length bytes + 2) some refl (ap (λ (xs : List ℕ). length xs + 2) (sym (left_with side bytes old none)))
      (put_back (λ (a b : SessionView). Took policy side (drained policy side (length bytes + 2) a) a b) took)

  pub piece_light : IsLight policy 0 (with_left side piece out) (with_left side rest mid) → IsLight policy (length bytes) old new
  piece_light light =
      let l : IsLight policy 0 (with_pushed side bytes old) new = put_back (λ (a b : SessionView). IsLight policy 0 a b) light in
      record {
        mode = l.mode ∙ mode_with side bytes old;
        watches = l.watches ∙ watches_with side bytes old;
        weighs = by _ _ _ _ l.weighs (piece_weighs policy side bytes old);
      }
    where
      by : (new with_piece old n : ℕ) → new ≤ with_piece + 19 * 0 → with_piece ≡ old + 19 * n → new ≤ old + 19 * n
      by new with_piece old n e f = omega arith
