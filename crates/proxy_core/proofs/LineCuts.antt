-- The first of a side's lines, and where it is cut off.
use Rattle.std.proofs.Common.{ℕ, zero, suc, ◌≡◌, ◌+◌, ◌-◌, ◌≤◌, ◌<◌, Bool, true, false, cond, List, [], ◌∷◌, ◌++◌, length, drop, Option, Some, None, refl, ap, ap₂, ◌∙◌, sym, subst, arith, append_assoc, inl, inr}
use Rattle.std.specs.Prelude.{◌==◌}
use Rattle.std.proofs.lemmas.Bool.{eqb-true}
use Rattle.std.proofs.lemmas.List.{drop_at}
use Rattle.sasl_watch.specs.Lines.{Cut, with_line, after_byte, at_byte, byte_fault, cut_from, is_begin, agrees, line_fault}
use Rattle.sasl_watch.specs.Watching.{Watch, Takes, client_ahead, bus_ahead}
use Rattle.sasl_watch.specs.Following.{ClientFollows, ClientEnds, ClientWaits, ClientFails, BusFollows, BusEnds, BusWaits, BusFails}
use Rattle.sasl_watch.specs.declared.LineFault.{LineFault}
use Rattle.sasl_watch.specs.declared.LineKind.{LineKind}
use Rattle.sasl_watch.specs.declared.LineKind.TheVariants.{NoNul, EarlyBus}
use Rattle.sasl_watch.specs.declared.NextLine.TheVariants.{Nul, Line, Begin, Done, Incomplete, Bad}
use Rattle.sasl_watch.proofs.Givens.{client_ahead-lines, same_head}
use Rattle.sasl_watch.proofs.Followed.{client-next, bus-next}

-- ---- the whole line before a cut

record FirstLine (refused : List ℕ → Bool) (place : ℕ) (line s l : List ℕ) : Type 0 where
  first : List ℕ
  rest : List ℕ
  some : 0 < length first
  parts : s ≡ first ++ rest
  is : l ≡ line ++ first
  cut : cut_from refused place line s ≡ with_line l (cut_from refused (place + length first) [] rest)

take_line : (refused : List ℕ → Bool) (place : ℕ) (line s l : List ℕ) (ls : List (List ℕ)) → (cut_from refused place line s).lines ≡ l ∷ ls → FirstLine refused place line s l
take_line refused place line [] l ls e = absurd cc
take_line refused place line (b ∷ s) l ls e = by (byte_fault refused line b) refl e (λ h. take_line refused (place + 1) (line ++ b ∷ []) s l ls h)
  where
    others : List ℕ → Cut
    others next = cut_from refused (place + 1) next s

    by_end : (d : Bool) → (b == 10) ≡ d → byte_fault refused line b ≡ None → (after_byte d (line ++ b ∷ []) (λ next. cut_from refused (place + 1) next s)).lines ≡ l ∷ ls
        → ((cut_from refused (place + 1) (line ++ b ∷ []) s).lines ≡ l ∷ ls → FirstLine refused (place + 1) (line ++ b ∷ []) s l) → FirstLine refused place line (b ∷ s) l
    by_end true k h e ih =
        let same : line ++ b ∷ [] ≡ l = same_head (line ++ b ∷ []) l _ ls e in
        record {
          first = b ∷ [];
          rest = s;
          some = omega arith;
          parts = refl;
          is = sym same;
          cut = ap (λ (o : Option LineKind). at_byte o place b line (λ next. cut_from refused (place + 1) next s)) h
              ∙ ap (λ (d : Bool). after_byte d (line ++ b ∷ []) (λ next. cut_from refused (place + 1) next s)) k
              ∙ ap (λ (x : List ℕ). with_line x (cut_from refused (place + 1) [] s)) same;
        }
    by_end false k h e ih =
        let r = ih e in
        record {
          first = b ∷ r.first;
          rest = r.rest;
          some = omega arith;
          parts = ap (λ (t : List ℕ). b ∷ t) r.parts;
          is = r.is ∙ append_assoc line (b ∷ []) r.first;
          cut = ap (λ (o : Option LineKind). at_byte o place b line (λ next. cut_from refused (place + 1) next s)) h
              ∙ ap (λ (d : Bool). after_byte d (line ++ b ∷ []) (λ next. cut_from refused (place + 1) next s)) k
              ∙ r.cut
              ∙ ap (λ (n : ℕ). with_line l (cut_from refused n [] r.rest)) (omega arith);
        }

    by : (o : Option LineKind) → byte_fault refused line b ≡ o → (at_byte o place b line (λ next. cut_from refused (place + 1) next s)).lines ≡ l ∷ ls
        → ((cut_from refused (place + 1) (line ++ b ∷ []) s).lines ≡ l ∷ ls → FirstLine refused (place + 1) (line ++ b ∷ []) s l) → FirstLine refused place line (b ∷ s) l
    by (Some kind) h e ih = absurd cc
    by None h e ih = by_end (b == 10) refl h e ih

-- ---- the watch after a line

abbrev pub behind : ℕ → List ℕ → List ℕ → Watch
behind place left l = record { place = place + length l; left = drop (length l) left; bad = None }

abbrev pub sound_at : ℕ → List ℕ → Watch
sound_at place left = record { place = place; left = left; bad = None }

-- the first line has at least one byte
taken_of : (ahead : Watch → Cut) (refused : List ℕ → Bool) (place : ℕ) (left l : List ℕ) → (ahead (sound_at place left) ≡ cut_from refused place [] left) → ((rest : List ℕ) → cut_from refused (place + length l) [] rest ≡ ahead (sound_at (place + length l) rest))
    → FirstLine refused place [] left l → (0 < length l) × Takes ahead (sound_at place left) l (behind place left l)
taken_of ahead refused place left l here there f =
    let dropped : drop (length l) left ≡ f.rest = ap (drop (length l)) (f.parts ∙ ap (λ (t : List ℕ). t ++ f.rest) (sym f.is)) ∙ drop_at l f.rest (length l) refl in
    let long : length f.first ≡ length l = ap length (sym f.is) in
    let some = f.some in (
      omega (arith, some, long),
      record {
        sound = refl;
        parts = f.parts ∙ ap (λ (t : List ℕ). t ++ f.rest) (sym f.is) ∙ ap (λ (t : List ℕ). l ++ t) (sym dropped);
        is = refl;
        cut = here ∙ f.cut ∙ ap (λ (n : ℕ). with_line l (cut_from refused (place + n) [] f.rest)) long ∙ ap (λ (t : List ℕ). with_line l (cut_from refused (place + length l) [] t)) (sym dropped) ∙ ap (with_line l) (there (drop (length l) left));
      },
    )

-- ---- the client's

record ClientTaken (place : ℕ) (left l : List ℕ) : Type 0 where
  some : 0 < length l
  takes : Takes client_ahead (sound_at place left) l (behind place left l)
  nul : place ≡ 0 → l ≡ 0 ∷ []

client_taken : (place : ℕ) (left l : List ℕ) (ls : List (List ℕ)) → (client_ahead (sound_at place left)).lines ≡ l ∷ ls → ClientTaken place left l
client_taken zero [] l ls e = absurd cc
client_taken zero (b ∷ s) l ls e = by (b == 0) refl e
  where
    by : (d : Bool) → (b == 0) ≡ d → (cond d (with_line (b ∷ []) (cut_from (λ line. false) 1 [] s)) (record { lines = []; fault = line_fault NoNul 0 })).lines ≡ l ∷ ls → ClientTaken 0 (b ∷ s) l
    by false k e = absurd cc
    by true k e =
        let same : b ∷ [] ≡ l = same_head (b ∷ []) l _ ls e in
        subst (λ (x : List ℕ). ClientTaken 0 (b ∷ s) x) same (record {
          some = omega arith;
          takes = record { sound = refl; parts = refl; is = refl; cut = ap (λ (d : Bool). cond d (with_line (b ∷ []) (cut_from (λ line. false) 1 [] s)) (record { lines = []; fault = line_fault NoNul 0 })) k };
          nul = λ z. ap (λ (x : ℕ). x ∷ []) (eqb-true b 0 k);
        })
client_taken (suc n) left l ls e =
    let pos : 0 < suc n = omega arith in
    let here = client_ahead-lines (suc n) left None pos in
    let f = take_line (λ line. false) (suc n) [] left l ls (sym (ap (λ (c : Cut). c.lines) here) ∙ e) in
    let t = taken_of client_ahead (λ line. false) (suc n) left l here (λ rest. sym (client_ahead-lines (suc n + length l) rest None (omega arith))) f in
    record { some = t.0; takes = t.1; nul = λ z. absurd (omega (arith, z)) }

-- the client's lines, with the first one that is left
pub record ClientGoes (pushed : List ℕ) (given : List (List ℕ)) (place : ℕ) (left l : List ℕ) : Type 0 where
  pub some : 0 < length l
  pub parts : left ≡ l ++ (behind place left l).left
  pub start : place ≡ 0 → (given ≡ []) × (is_begin l ≡ false)
  pub more : is_begin l ≡ false → ClientFollows pushed (given ++ l ∷ []) (behind place left l)
  pub last : is_begin l ≡ true → ClientEnds pushed given l (behind place left l)

pub client_goes : (pushed : List ℕ) (given : List (List ℕ)) (place : ℕ) (left l : List ℕ) (ls : List (List ℕ)) → ClientFollows pushed given (sound_at place left)
    → (client_ahead (sound_at place left)).lines ≡ l ∷ ls → ClientGoes pushed given place left l
client_goes pushed given zero left l ls f e =
    let t = client_taken 0 left l ls e in
    let nul : l ≡ 0 ∷ [] = t.nul refl in
    let takes : Takes client_ahead (sound_at 0 left) (0 ∷ []) (behind 0 left (0 ∷ [])) = subst (λ (x : List ℕ). Takes client_ahead (sound_at 0 left) x (behind 0 left x)) nul t.takes in
    let tells = client-next pushed given (sound_at 0 left) Nul (behind 0 left (0 ∷ [])) f (refl, takes) in
    let given_is : given ++ l ∷ [] ≡ (0 ∷ []) ∷ [] = ap (λ (g : List (List ℕ)). g ++ l ∷ []) tells.0 ∙ ap (λ (x : List ℕ). x ∷ []) nul in
    let none : is_begin l ≡ false = ap is_begin nul in
    record {
      some = t.some;
      parts = t.takes.parts;
      start = λ z. (tells.0, none);
      more = λ b. subst (λ (g : List (List ℕ)). ClientFollows pushed g (behind 0 left l)) (sym given_is) (subst (λ (x : List ℕ). ClientFollows pushed ((0 ∷ []) ∷ []) (behind 0 left x)) (sym nul) tells.1);
      last = λ b. absurd (let c : false ≡ true = sym none ∙ b in cc);
    }
client_goes pushed given (suc n) left l ls f e =
    let t = client_taken (suc n) left l ls e in
    let pos : 0 < suc n = omega arith in
    record {
      some = t.some;
      parts = t.takes.parts;
      start = λ z. absurd (omega (arith, z));
      more = λ b. client-next pushed given (sound_at (suc n) left) (Line l) (behind (suc n) left l) f (pos, b, t.takes);
      last = λ b. client-next pushed given (sound_at (suc n) left) (Begin l) (behind (suc n) left l) f (pos, b, t.takes);
    }

cut_is : (c : Cut) (o : Option LineFault) → c.lines ≡ [] → c.fault ≡ o → c ≡ record { lines = []; fault = o }
cut_is c o l f = ap₂ (λ (ls : List (List ℕ)) (x : Option LineFault). record { lines = ls; fault = x }) l f

pub client_waits : (pushed : List ℕ) (given : List (List ℕ)) (place : ℕ) (left : List ℕ) → ClientFollows pushed given (sound_at place left)
    → (client_ahead (sound_at place left)).lines ≡ [] → (client_ahead (sound_at place left)).fault ≡ None → ClientWaits pushed given (sound_at place left)
client_waits pushed given place left f l o = client-next pushed given (sound_at place left) Incomplete (sound_at place left) f (record { sound = refl; same = refl; cut = cut_is (client_ahead (sound_at place left)) None l o })

pub client_fails : (pushed : List ℕ) (given : List (List ℕ)) (place : ℕ) (left : List ℕ) (x : LineFault) → ClientFollows pushed given (sound_at place left)
    → (client_ahead (sound_at place left)).lines ≡ [] → (client_ahead (sound_at place left)).fault ≡ Some x → ClientFails pushed given x (record { place = place; left = left; bad = Some x })
client_fails pushed given place left x f l o =
    client-next pushed given (sound_at place left) (Bad x) (record { place = place; left = left; bad = Some x }) f (inr (record { sound = refl; cut = cut_is (client_ahead (sound_at place left)) (Some x) l o; is = refl }))

-- ---- the bus's

pub record BusGoes (pushed : List ℕ) (given : List (List ℕ)) (n place : ℕ) (left l : List ℕ) : Type 0 where
  pub some : 0 < length l
  pub parts : left ≡ l ++ (behind place left l).left
  pub few : length (given ++ l ∷ []) ≤ n
  pub more : BusFollows pushed (given ++ l ∷ []) (behind place left l)

module _ (pushed : List ℕ) (given : List (List ℕ)) (n : ℕ) (begun : Bool) (place : ℕ) (left : List ℕ) (few : length given ≤ n) (f : BusFollows pushed given (sound_at place left)) where
  pub bus_goes : (l : List ℕ) (ls : List (List ℕ)) → 0 < n - length given → (bus_ahead (sound_at place left)).lines ≡ l ∷ ls → BusGoes pushed given n place left l
  bus_goes l ls pos e =
      let x = take_line agrees place [] left l ls e in
      let t = taken_of bus_ahead agrees place left l refl (λ rest. refl) x in
      let tells = bus-next pushed given n begun (sound_at place left) (Line l) (behind place left l) few f (pos, t.1) in
      record { some = t.0; parts = t.1.parts; few = tells.0; more = tells.1 }

  pub bus_waits : 0 < n - length given → (bus_ahead (sound_at place left)).lines ≡ [] → (bus_ahead (sound_at place left)).fault ≡ None → BusWaits pushed given n begun (sound_at place left)
  bus_waits pos l o = bus-next pushed given n begun (sound_at place left) Incomplete (sound_at place left) few f (inl (pos, record { sound = refl; same = refl; cut = cut_is (bus_ahead (sound_at place left)) None l o }))

  pub bus_waits_for_begin : n - length given ≡ 0 → begun ≡ false → left ≡ [] → BusWaits pushed given n begun (sound_at place left)
  bus_waits_for_begin none unseen empty = bus-next pushed given n begun (sound_at place left) Incomplete (sound_at place left) few f (inr (record { none = none; unseen = unseen; sound = refl; empty = empty; same = refl }))

  pub bus_ends : n - length given ≡ 0 → begun ≡ true → BusEnds pushed given n begun (sound_at place left)
  bus_ends none seen = bus-next pushed given n begun (sound_at place left) Done (sound_at place left) few f (record { none = none; seen = seen; sound = refl; same = refl })

  pub bus_fails : (x : LineFault) → 0 < n - length given → (bus_ahead (sound_at place left)).lines ≡ [] → (bus_ahead (sound_at place left)).fault ≡ Some x → BusFails pushed given n begun (sound_at place left) x (record { place = place; left = left; bad = Some x })
  bus_fails x pos l o = bus-next pushed given n begun (sound_at place left) (Bad x) (record { place = place; left = left; bad = Some x }) few f (inr (inl (pos, record { sound = refl; cut = cut_is (bus_ahead (sound_at place left)) (Some x) l o; is = refl })))

  pub bus_early : n - length given ≡ 0 → begun ≡ false → 0 < length left → (let x : LineFault = record { kind = EarlyBus; at = place } in BusFails pushed given n begun (sound_at place left) x (record { place = place; left = left; bad = Some x }))
  bus_early none unseen some = let x : LineFault = record { kind = EarlyBus; at = place } in bus-next pushed given n begun (sound_at place left) (Bad x) (record { place = place; left = left; bad = Some x }) few f (inr (inr (record { none = none; unseen = unseen; sound = refl; some = some; early = refl; is = refl })))
