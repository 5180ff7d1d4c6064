-- What waits for a side, as it is written piece by piece.
use Rattle.std.proofs.Common.{◌≡◌, ◌≤◌, ◌+◌, ℕ, List, ◌++◌, refl, ap, sym, ◌∙◌, append_assoc, length, drop, arith}
use Rattle.std.proofs.lemmas.List.{drop_at}
use Rattle.policy_view.specs.declared.Side.{Side}
use Rattle.policy_view.specs.declared.Side.TheVariants.{Client, Bus}
use Rattle.policy_view.specs.Past.{History}
use Rattle.policy_view.specs.History.{end_of, history}
use Rattle.policy_view.specs.Outputs.{bus_bytes, client_bytes}
use Rattle.policy_args.specs.Policy.{Policy}
use Rattle.policy_args.specs.Words.{PolicyOptions}
use Rattle.proxy_core.specs.Sessions.{SessionView, Holds, nothing, waits_for}
use Rattle.proxy_core.specs.Steps.{weight, IsLight}
use Rattle.recording.specs.Recording.{Recording}
use Rattle.replay_output.specs.Output.{record_where_any, end_record, mode_of, output_of_recording, events_of}
use Rattle.replay.specs.Waiting.{with_waiting, output_of}

waits-with : (side : Side) (bytes : List ℕ) (v : SessionView) → waits_for side (with_waiting side bytes v) ≡ bytes
waits-with Client bytes v = refl
waits-with Bus bytes v = refl

with-with : (side : Side) (a b : List ℕ) (v : SessionView) → with_waiting side a (with_waiting side b v) ≡ with_waiting side a v
with-with Client a b v = refl
with-with Bus a b v = refl

-- after a piece was taken
pub record Went (side : Side) (start new : SessionView) (written : List ℕ) : Type 0 where
  pub split : waits_for side start ≡ written ++ waits_for side new
  pub same : new ≡ with_waiting side (waits_for side new) start

pub side-step : (side : Side) (start old new : SessionView) (written next rest : List ℕ) → waits_for side start ≡ written ++ waits_for side old → old ≡ with_waiting side (waits_for side old) start →
    next ++ rest ≡ waits_for side old → new ≡ with_waiting side (drop (length next) (waits_for side old)) old → Went side start new (written ++ next)
side-step side start old new written next rest split same front took =
    let left : waits_for side new ≡ rest = ap (waits_for side) took ∙ waits-with side _ old ∙ ap (drop (length next)) (sym front) ∙ drop_at next rest (length next) refl in
    record {
      split = split ∙ ap (λ t. written ++ t) (sym front) ∙ sym (append_assoc written next rest) ∙ ap (λ t. (written ++ next) ++ t) (sym left);
      same = took ∙ ap (λ v. with_waiting side (drop (length next) (waits_for side old)) v) same ∙ with-with side _ _ start
          ∙ ap (λ t. with_waiting side t start) (sym (ap (waits_for side) took ∙ waits-with side _ old));
    }

-- what a session that holds a history gives out
abbrev given : Policy → History → List ℕ
given policy h = record_where_any 16 (bus_bytes policy h) ++ record_where_any 17 (client_bytes policy h) ++ end_record (end_of h)

holds-output : (policy : Policy) (v : SessionView) (h : History) → Holds policy v h nothing → output_of v ≡ given policy h
holds-output policy v h holds =
    ap (λ t. record_where_any 16 t ++ record_where_any 17 v.client_side ++ end_record v.ended) holds.for_bus
    ∙ ap (λ t. record_where_any 16 (bus_bytes policy h) ++ record_where_any 17 t ++ end_record v.ended) holds.for_client
    ∙ ap (λ t. record_where_any 16 (bus_bytes policy h) ++ record_where_any 17 (client_bytes policy h) ++ end_record t) holds.end_is

-- a session that holds the history of a recording has its output
pub output-is : (options : PolicyOptions) (r : Recording) (v : SessionView) → v.mode ≡ mode_of options r →
    Holds options.policy v (history options.policy v.mode (events_of r.events)) nothing → output_of v ≡ output_of_recording options r
unfolding output_of_recording
output-is options r v mode holds = holds-output options.policy v _ holds
    ∙ ap (λ m. given options.policy (history options.policy m (events_of r.events))) mode

-- what waits after this many bytes from the start
pub few : (policy : Policy) (start after : SessionView) (came : ℕ) → weight policy start ≤ 60161266 → IsLight policy came start after → came ≤ 67108864 → length after.bus_side + length after.client_side ≤ 1335229682
few policy start after came first light most = omega (arith, light.weighs, first, most)

pub lights : (policy : Policy) (a b c : SessionView) (n m k : ℕ) → k ≡ n + m → IsLight policy n a b → IsLight policy m b c → IsLight policy k a c
lights policy a b c n m k e p q = record {
  mode = q.mode ∙ p.mode;
  watches = q.watches ∙ p.watches;
  weighs = omega (arith, e, p.weighs, q.weighs);
}
