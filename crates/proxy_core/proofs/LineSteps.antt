-- Lines taken from the start of a stream.
use Rattle.std.proofs.Common.{ℕ, zero, suc, ◌≡◌, ◌+◌, ◌*◌, ◌≤◌, Bool, true, false, cond, List, [], ◌∷◌, ◌++◌, length, take, drop, Option, Some, None, refl, ap, ◌∙◌, sym, subst, arith, length-append, inl, inr}
use Rattle.std.specs.Prelude.{◌⊎◌, ◌==◌, ◌||◌, not, codes, bytes_eq, take_while}
use Rattle.std.specs.List.{prefix_len}
use Rattle.std.proofs.lemmas.List.{drop_at}
use Rattle.byte_lists.proofs.Bytes.{bytes_eq-true}
use Rattle.dbus_names.specs.Names.{is_empty}
use Rattle.sasl_watch.specs.Lines.{word, for_bus}
use Rattle.sasl_watch.specs.Lines as lines
use Rattle.sasl_watch.specs.Watching.{Watch, client_ahead, bus_ahead, ClientGives, BusGives}
use Rattle.sasl_watch.specs.declared.LineFault.{LineFault}
use Rattle.sasl_watch.specs.declared.LineKind.TheVariants.{EarlyBus}
use Rattle.sasl_watch.specs.declared.NextLine.{NextLine}
use Rattle.sasl_watch.specs.declared.NextLine.TheVariants.{Line, Begin}
use Rattle.policy_args.specs.Policy.{Policy}
use Rattle.policy_view.specs.declared.visible.Visible.TheVariants as element
use Rattle.policy_view.specs.declared.Side.{Side}
use Rattle.policy_view.specs.declared.Side.TheVariants.{Client, Bus}
use Rattle.proxy_core.specs.Streams.{StreamView, InLines, watch_at, GaveLine}
use Rattle.proxy_core.specs.Sessions.{SessionView}
use Rattle.proxy_core.specs.Steps.{behind_line, in_messages, with_line_fault, with_lines, with_cut, unanswered, has_begun, with_all_answered, step_at, Grows, Did, own_to_come, weight, IsLight}
use Rattle.proxy_core.proofs.Keeping.{grows_as, grows_none, bus_grows, client_grows, elements_grow}

-- ---- what waits after a line starts with what waited before

fault_grows : (side : Side) (place : ℕ) (o : Option LineFault) (view : SessionView) → Grows view (with_line_fault side place o view)
fault_grows side place None view = grows_none view
fault_grows Client place (Some f) view = grows_as (grows_none view) refl refl
fault_grows Bus place (Some f) view = grows_as (grows_none view) refl refl

lines_grow : (side : Side) (place : ℕ) (ls : List (List ℕ)) (o : Option LineFault) (view : SessionView) → Grows view (with_lines side place ls o view).0
lines_grow side place [] o view = fault_grows side place o view
lines_grow Client place (l ∷ ls) o view = grows_as (elements_grow view (record view { bus_side = view.bus_side ++ for_bus l }) (element.Line Client l ∷ []) (bus_grows view (for_bus l))) refl refl
lines_grow Bus place (l ∷ ls) o view = grows_as (elements_grow view (record view { client_side = view.client_side ++ l }) (element.Line Bus l ∷ []) (client_grows view l)) refl refl

abbrev by_begun : Bool → Option LineFault → ℕ → SessionView → SessionView × Bool
by_begun b o place view = cond b (record view { bus = in_messages view.bus }, true) (with_line_fault Bus place o view, false)

begun_grows : (b : Bool) (o : Option LineFault) (place : ℕ) (view : SessionView) → Grows view (by_begun b o place view).0
begun_grows true o place view = grows_as (grows_none view) refl refl
begun_grows false o place view = fault_grows Bus place o view

abbrev early : ℕ → SessionView → Option LineFault
early place view = cond (is_empty view.bus.left) None (Some (record { kind = EarlyBus; at = place }))

bus_line_grows : (b : Bool) (place : ℕ) (view : SessionView) → Grows view (cond b (with_all_answered place view) (with_cut Bus place (bus_ahead (watch_at place None view.bus.left)) view)).0
bus_line_grows true place view = begun_grows (has_begun view) (early place view) place view
bus_line_grows false place view = lines_grow Bus place (bus_ahead (watch_at place None view.bus.left)).lines (bus_ahead (watch_at place None view.bus.left)).fault view

pub line_grows : (side : Side) (place : ℕ) (o : Option LineFault) (policy : Policy) (view : SessionView) → Grows view (step_at policy side (InLines place o) view).0
line_grows Client place None policy view = lines_grow Client place (client_ahead (watch_at place None view.client.left)).lines (client_ahead (watch_at place None view.client.left)).fault view
line_grows Bus place None policy view = bus_line_grows (unanswered view == 0) place view
line_grows side place (Some f) policy view = fault_grows side place (Some f) view

-- ---- if more may follow, the session runs

lines_run : (side : Side) (place : ℕ) (ls : List (List ℕ)) (o : Option LineFault) (view : SessionView) → view.ended ≡ None → (with_lines side place ls o view).1 ≡ true → (with_lines side place ls o view).0.ended ≡ None
lines_run side place [] o view runs e = absurd cc
lines_run Client place (l ∷ ls) o view runs e = runs
lines_run Bus place (l ∷ ls) o view runs e = runs

bus_line_runs : (b begun : Bool) (place : ℕ) (o : Option LineFault) (view : SessionView) → view.ended ≡ None
    → (cond b (by_begun begun o place view) (with_cut Bus place (bus_ahead (watch_at place None view.bus.left)) view)).1 ≡ true
    → (cond b (by_begun begun o place view) (with_cut Bus place (bus_ahead (watch_at place None view.bus.left)) view)).0.ended ≡ None
bus_line_runs true true place o view runs e = runs
bus_line_runs true false place o view runs e = absurd cc
bus_line_runs false begun place o view runs e = lines_run Bus place (bus_ahead (watch_at place None view.bus.left)).lines (bus_ahead (watch_at place None view.bus.left)).fault view runs e

pub line_runs : (side : Side) (place : ℕ) (o : Option LineFault) (policy : Policy) (view : SessionView) → view.ended ≡ None → (step_at policy side (InLines place o) view).1 ≡ true → (step_at policy side (InLines place o) view).0.ended ≡ None
line_runs Client place None policy view runs e = lines_run Client place (client_ahead (watch_at place None view.client.left)).lines (client_ahead (watch_at place None view.client.left)).fault view runs e
line_runs Bus place None policy view runs e = bus_line_runs (unanswered view == 0) (has_begun view) place (early place view) view runs e
line_runs side place (Some f) policy view runs e = absurd cc

-- ---- the stream after a line

pub stream_behind : (s : StreamView) (place n : ℕ) (l : List ℕ) (w : Watch) → s.left ≡ l ++ w.left → w ≡ record { place = place + length l; left = w.left; bad = None } →
    record { came = s.came; phase = InLines w.place w.bad; left = w.left; lines = s.lines + n } ≡ behind_line place l n s
stream_behind s place n l w parts is =
    ap (λ (v : Watch). record { came = s.came; phase = InLines v.place v.bad; left = w.left; lines = s.lines + n }) is
    ∙ ap (λ (left : List ℕ). record { came = s.came; phase = InLines (place + length l) None; left = left; lines = s.lines + n }) (sym (ap (drop (length l)) parts ∙ drop_at l w.left (length l) refl))

-- ---- what was done with a line

pub did_light : (policy : Policy) (old mid new target : SessionView) (goes : Bool) → Did target mid new goes → mid.mode ≡ old.mode → target.mode ≡ old.mode → mid.watches ≡ old.watches → target.watches ≡ old.watches
    → weight policy mid ≤ weight policy old → weight policy target ≤ weight policy old → IsLight policy 0 old new
did_light policy old mid new target goes (inl done) mode mode_is watches watches_is less light =
    subst (λ (v : SessionView). IsLight policy 0 old v) (sym done.0) (record { mode = mode_is; watches = watches_is; weighs = no_heavier _ _ light })
  where
    no_heavier : (new old : ℕ) → new ≤ old → new ≤ old + 19 * 0
    no_heavier new old h = omega arith
did_light policy old mid new target goes (inr cut) mode mode_is watches watches_is less light = record {
  mode = cut.0.kept.mode ∙ mode;
  watches = cut.0.kept.watches ∙ watches;
  weighs = by (ap length cut.0.kept.bus_side) (ap length cut.0.kept.client_side) cut.0.client cut.0.bus (ap (own_to_come policy) cut.0.greeted) less;
}
  where
    by : {b s l m o b' s' l' m' o' w : ℕ} → b ≡ b' → s ≡ s' → l ≤ l' → m ≤ m' → o ≡ o' → b' + s' + 19 * (l' + m') + o' ≤ w → b + s + 19 * (l + m) + o ≤ w + 19 * 0
    by b s l m o w = omega arith

-- ---- how long what the bus is sent for a line is

take_short : (n : ℕ) (xs : List ℕ) → length (take n xs) ≤ length xs
take_short zero xs = omega arith
take_short (suc n) [] = omega arith
take_short (suc n) (x ∷ xs) = let h = take_short n xs in omega (arith, h)

while_short : (test : ℕ → Bool) (xs : List ℕ) → length (take_while test xs) ≤ length xs
while_short test xs = take_short (prefix_len test xs) xs

-- what the bus is sent for a line has at most nineteen times its bytes
pub for_bus_within : (l : List ℕ) → length (for_bus l) ≤ 19 * length l
for_bus_within l = begins (bytes_eq (word l) (codes "BEGIN")) refl
  where
    short : length (word l) ≤ length l
    short = while_short (λ c. not (c == 32 || c == 13)) l

    asks : (b : Bool) → bytes_eq (word l) (codes "NEGOTIATE_UNIX_FD") ≡ b → length (cond b (codes "NO_UNIX_FD" ++ lines.crlf) l) ≤ 19 * length l
    asks true e =
        let same : length (word l) ≡ 17 = ap length (bytes_eq-true (word l) (codes "NEGOTIATE_UNIX_FD") e) in
        let part = short in
        omega (arith, same, part)
    asks false e = omega arith

    begins : (b : Bool) → bytes_eq (word l) (codes "BEGIN") ≡ b
        → length (cond b (codes "BEGIN" ++ lines.crlf) (cond (bytes_eq (word l) (codes "NEGOTIATE_UNIX_FD")) (codes "NO_UNIX_FD" ++ lines.crlf) l)) ≤ 19 * length l
    begins true e =
        let same : length (word l) ≡ 5 = ap length (bytes_eq-true (word l) (codes "BEGIN") e) in
        let part = short in
        omega (arith, same, part)
    begins false e = asks (bytes_eq (word l) (codes "NEGOTIATE_UNIX_FD")) refl

-- ---- how much waits after a line

module _ (policy : Policy) where
  pub client_light : (view old new target : SessionView) (s : StreamView) (l : List ℕ) (goes : Bool) → view ≡ old → view.client.left ≡ l ++ s.left
      → Did target (record view { client = s }) new goes → target.mode ≡ view.mode → target.watches ≡ view.watches → target.client.left ≡ s.left → target.bus.left ≡ view.bus.left
      → target.bus_side ≡ view.bus_side ++ for_bus l → target.client_side ≡ view.client_side → target.greeted ≡ view.greeted → IsLight policy 0 old new
  client_light view old new target s l goes same parts did mode watches client bus out shown greeted =
      let c : length target.client.left ≡ length s.left = ap length client in
      let b : length target.bus.left ≡ length view.bus.left = ap length bus in
      let less : weight policy target ≤ weight policy view =
      by (length view.bus_side) (length l) (ap length out ∙ length-append view.bus_side (for_bus l)) (for_bus_within l) (ap length shown) (ap length parts ∙ length-append l s.left) c b (ap (own_to_come policy) greeted) in
      subst (λ (v : SessionView). IsLight policy 0 v new) same (did_light policy view (record view { client = s }) new target goes did refl mode refl watches (shorter (length l) (length s.left) _ _ _ (ap length parts ∙ length-append l s.left)) less)
    where
      shorter : {l' : ℕ} (k r m sides own : ℕ) → l' ≡ k + r → sides + 19 * (r + m) + own ≤ sides + 19 * (l' + m) + own
      shorter k r m sides own e = omega arith

      by : {b n s l m o s' l' r m' o' : ℕ} (b' k : ℕ) → b ≡ b' + n → n ≤ 19 * k → s ≡ s' → l' ≡ k + r → l ≡ r → m ≡ m' → o ≡ o' → b + s + 19 * (l + m) + o ≤ b' + s' + 19 * (l' + m') + o'
      by b' k b n s l l' m o = omega arith

  pub bus_light : (view old new target : SessionView) (s : StreamView) (l : List ℕ) (goes : Bool) → view ≡ old → view.bus.left ≡ l ++ s.left
      → Did target (record view { bus = s }) new goes → target.mode ≡ view.mode → target.watches ≡ view.watches → target.bus.left ≡ s.left → target.client.left ≡ view.client.left
      → target.client_side ≡ view.client_side ++ l → target.bus_side ≡ view.bus_side → target.greeted ≡ view.greeted → IsLight policy 0 old new
  bus_light view old new target s l goes same parts did mode watches bus client out shown greeted =
      let c : length target.client.left ≡ length view.client.left = ap length client in
      let b : length target.bus.left ≡ length s.left = ap length bus in
      let less : weight policy target ≤ weight policy view =
      by (length view.client_side) (length l) (ap length shown) (ap length out ∙ length-append view.client_side l) (ap length parts ∙ length-append l s.left) c b (ap (own_to_come policy) greeted) in
      subst (λ (v : SessionView). IsLight policy 0 v new) same (did_light policy view (record view { bus = s }) new target goes did refl mode refl watches (shorter (length l) (length s.left) _ _ _ (ap length parts ∙ length-append l s.left)) less)
    where
      shorter : {m' : ℕ} (k r l sides own : ℕ) → m' ≡ k + r → sides + 19 * (l + r) + own ≤ sides + 19 * (l + m') + own
      shorter k r l sides own e = omega arith

      by : {b s l m o b' l' r m' o' : ℕ} (s' k : ℕ) → b ≡ b' → s ≡ s' + k → m' ≡ k + r → l ≡ l' → m ≡ r → o ≡ o' → b + s + 19 * (l + m) + o ≤ b' + s' + 19 * (l' + m') + o'
      by s' k b s m l r o = omega arith

-- what is left after a line
pub client_left_behind : (s new : StreamView) (next : NextLine) (l : List ℕ) → (next ≡ Line l) ⊎ (next ≡ Begin l) → GaveLine ClientGives s next new → s.left ≡ l ++ new.left
client_left_behind s new next l (inl e) g =
    let h : GaveLine ClientGives s (Line l) new = subst (λ (n : NextLine). GaveLine ClientGives s n new) e g in
    h.given.2.parts ∙ ap (λ (x : StreamView). l ++ x.left) (sym h.is)
client_left_behind s new next l (inr e) g =
    let h : GaveLine ClientGives s (Begin l) new = subst (λ (n : NextLine). GaveLine ClientGives s n new) e g in
    h.given.2.parts ∙ ap (λ (x : StreamView). l ++ x.left) (sym h.is)

pub bus_left_behind : (unanswered : ℕ) (begun : Bool) (s new : StreamView) (next : NextLine) (l : List ℕ) → next ≡ Line l → GaveLine (BusGives unanswered begun) s next new → s.left ≡ l ++ new.left
bus_left_behind unanswered begun s new next l e g =
    let h : GaveLine (BusGives unanswered begun) s (Line l) new = subst (λ (n : NextLine). GaveLine (BusGives unanswered begun) s n new) e g in
    h.given.1.parts ∙ ap (λ (x : StreamView). l ++ x.left) (sym h.is)
