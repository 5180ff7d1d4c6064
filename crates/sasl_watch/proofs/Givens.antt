-- A stream that begins with the given lines has these lines, whatever follows them.
use Rattle.std.proofs.Common.{◌≡◌, ℕ, ◌+◌, ◌<◌, Bool, true, false, cond, List, [], ◌∷◌, ◌++◌, length, Option, Some, None, refl, sym, ap, ap₂, ◌∙◌, append_assoc, append-nil, arith}
use Rattle.std.specs.Prelude.{◌==◌}
use Rattle.std.proofs.lemmas.List.{length-append, append_cancel_left}
use Rattle.std.proofs.lemmas.Bool.Decides.{nat_tests}
use Rattle.sasl_watch.specs.declared.LineKind.{LineKind}
use Rattle.sasl_watch.specs.declared.LineKind.TheVariants.{NoNul}
use Rattle.sasl_watch.specs.declared.LineFault.{LineFault}
use Rattle.sasl_watch.specs.Lines.{Cut, with_line, after_byte, at_byte, cut_from, byte_fault, joined, client_cut, line_fault}
use Rattle.sasl_watch.specs.Watching.{client_ahead}
use Rattle.sasl_watch.specs.Following.{behind}

pub same_head : (a b : List ℕ) (x y : List (List ℕ)) → a ∷ x ≡ b ∷ y → a ≡ b
same_head a b x y e = cc

pub same_tail : (a b : List ℕ) (x y : List (List ℕ)) → a ∷ x ≡ b ∷ y → x ≡ y
same_tail a b x y e = cc

-- a line has a byte more at least than came before
line-longer : (refused : List ℕ → Bool) (s : List ℕ) (place : ℕ) (line first : List ℕ) (others : List (List ℕ)) → (cut_from refused place line s).lines ≡ first ∷ others → length line < length first
line-longer refused [] place line first others e = absurd cc
line-longer refused (b ∷ s) place line first others e = at_it (λ next. line-longer refused s (place + 1) next first others) (byte_fault refused line b) e
  where
    F : List ℕ → Cut
    F next = cut_from refused (place + 1) next s

    longer : length (line ++ b ∷ []) ≡ length line + 1
    longer = length-append line (b ∷ [])

    ended : (e : Bool) → ((next : List ℕ) → (F next).lines ≡ first ∷ others → length next < length first) → (after_byte e (line ++ b ∷ []) F).lines ≡ first ∷ others → length line < length first
    ended true ih h = let is : line ++ b ∷ [] ≡ first = same_head (line ++ b ∷ []) first (F []).lines others h in omega (arith, longer, ap length is)
    ended false ih h = omega (arith, longer, ih (line ++ b ∷ []) h)

    at_it : ((next : List ℕ) → (F next).lines ≡ first ∷ others → length next < length first) → (f : Option LineKind) → (at_byte f place b line F).lines ≡ first ∷ others → length line < length first
    at_it ih (Some kind) h = absurd cc
    at_it ih None h = ended (b == 10) ih h

-- the first line is there whatever follows it
line-first : (refused : List ℕ → Bool) (p rest : List ℕ) (place : ℕ) (line : List ℕ) (others : List (List ℕ)) → (cut_from refused place line (p ++ rest)).lines ≡ (line ++ p) ∷ others
    → (x : List ℕ) → cut_from refused place line (p ++ x) ≡ with_line (line ++ p) (cut_from refused (place + length p) [] x)
line-first refused [] rest place line others e x = absurd (omega (arith, line-longer refused rest place line (line ++ []) others e, ap length (append-nil line)))
line-first refused (b ∷ p) rest place line others e x = at_it (λ next. line-first refused p rest (place + 1) next others) (byte_fault refused line b) e
  where
    F : List ℕ → List ℕ → Cut
    F s next = cut_from refused (place + 1) next s

    moved : (line ++ b ∷ []) ++ p ≡ line ++ b ∷ p
    moved = append_assoc line (b ∷ []) p

    Ih : Type 0
    Ih = (next : List ℕ) → (F (p ++ rest) next).lines ≡ (next ++ p) ∷ others → (x : List ℕ) → F (p ++ x) next ≡ with_line (next ++ p) (cut_from refused (place + 1 + length p) [] x)

    on : place + 1 + length p ≡ place + length (b ∷ p)
    on = omega arith

    nothing_more : (q : List ℕ) → [] ≡ q → F (q ++ x) [] ≡ cut_from refused (place + length (b ∷ q)) [] x
    nothing_more [] e = refl
    nothing_more (c ∷ q) e = absurd cc

    same_rest : b ∷ [] ≡ b ∷ p → [] ≡ p
    same_rest e = cc

    ended : Ih → (e : Bool) → (after_byte e (line ++ b ∷ []) (F (p ++ rest))).lines ≡ (line ++ b ∷ p) ∷ others
        → after_byte e (line ++ b ∷ []) (F (p ++ x)) ≡ with_line (line ++ b ∷ p) (cut_from refused (place + length (b ∷ p)) [] x)
    ended ih true h =
        let is : line ++ b ∷ [] ≡ line ++ b ∷ p = same_head (line ++ b ∷ []) (line ++ b ∷ p) (F (p ++ rest) []).lines others h in
        ap₂ with_line is (nothing_more p (same_rest (append_cancel_left line (b ∷ []) (b ∷ p) is)))
    ended ih false h =
        ih (line ++ b ∷ []) (h ∙ ap (λ (t : List ℕ). t ∷ others) (sym moved)) x
        ∙ ap₂ (λ (t : List ℕ) (n : ℕ). with_line t (cut_from refused n [] x)) moved on

    at_it : Ih → (f : Option LineKind) → (at_byte f place b line (F (p ++ rest))).lines ≡ (line ++ b ∷ p) ∷ others
        → at_byte f place b line (F (p ++ x)) ≡ with_line (line ++ b ∷ p) (cut_from refused (place + length (b ∷ p)) [] x)
    at_it ih (Some kind) h = absurd cc
    at_it ih None h = ended ih (b == 10) h

-- and so do all that were given
pub cut-given : (refused : List ℕ → Bool) (given : List (List ℕ)) (place : ℕ) (rest : List ℕ) (others : List (List ℕ)) → (cut_from refused place [] (joined given ++ rest)).lines ≡ given ++ others
    → (x : List ℕ) → cut_from refused place [] (joined given ++ x) ≡ behind given (cut_from refused (place + length (joined given)) [] x)
cut-given refused [] place rest others e x = let here : place ≡ place + 0 = omega arith in ap (λ (n : ℕ). cut_from refused n [] x) here
cut-given refused (line ∷ given) place rest others e x =
    let front = λ (t : List ℕ). append_assoc line (joined given) t in
    let stands = line-first refused line (joined given ++ rest) place [] (given ++ others) (ap (λ (t : List ℕ). (cut_from refused place [] t).lines) (sym (front rest)) ∙ e) in
    let later : (cut_from refused (place + length line) [] (joined given ++ rest)).lines ≡ given ++ others =
    same_tail line line (cut_from refused (place + length line) [] (joined given ++ rest)).lines (given ++ others)
    (ap (λ (c : Cut). c.lines) (sym (stands (joined given ++ rest))) ∙ ap (λ (t : List ℕ). (cut_from refused place [] t).lines) (sym (front rest)) ∙ e) in
    let place_is : place + length line + length (joined given) ≡ place + length (line ++ joined given) = omega (arith, length-append line (joined given)) in
    ap (cut_from refused place []) (front x)
    ∙ stands (joined given ++ x)
    ∙ ap (with_line line) (cut-given refused given (place + length line) rest others later x)
    ∙ ap (λ (n : ℕ). behind (line ∷ given) (cut_from refused n [] x)) place_is

-- after the NUL the client's lines are cut as any others
pub client_ahead-lines : (place : ℕ) (left : List ℕ) (bad : Option LineFault) → 0 < place → client_ahead (record { place = place; left = left; bad = bad }) ≡ cut_from (λ line. false) place [] left
client_ahead-lines place left bad h = ap (λ (b : Bool). cond b (client_cut left) (cut_from (λ line. false) place [] left)) (not_zero place h)
  where
    not_zero : (n : ℕ) → 0 < n → (n == 0) ≡ false
    not_zero n h = grind (arith, nat_tests)

-- the client's lines, whose first is its NUL
pub client-given : (given : List (List ℕ)) (rest : List ℕ) (others : List (List ℕ)) → (client_cut (joined given ++ rest)).lines ≡ given ++ others
    → (x : List ℕ) (bad : Option LineFault) → client_cut (joined given ++ x) ≡ behind given (client_ahead (record { place = length (joined given); left = x; bad = bad }))
client-given [] rest others e x bad = refl
client-given ([] ∷ given) rest others e x bad = absurd (no_empty (joined given ++ rest) e)
  where
    no_empty : (s : List ℕ) → (client_cut s).lines ≡ [] ∷ (given ++ others) → ⊥
    no_empty [] e = cc
    no_empty (b ∷ s) e = go (b == 0) e
      where
        go : (d : Bool) → (cond d (with_line (b ∷ []) (cut_from (λ line. false) 1 [] s)) (record { lines = []; fault = line_fault NoNul 0 })).lines ≡ [] ∷ (given ++ others) → ⊥
        go true e = cc
        go false e = cc
client-given ((b ∷ line) ∷ given) rest others e x bad = go (b == 0) refl e
  where
    F : List ℕ → Cut
    F s = cut_from (λ line. false) 1 [] s

    no_more : (q : List ℕ) → (b ∷ []) ≡ b ∷ q → [] ≡ q
    no_more q e = cc

    with_nul : (q : List ℕ) → [] ≡ q → (F ((q ++ joined given) ++ rest)).lines ≡ given ++ others
        → with_line (b ∷ []) (F ((q ++ joined given) ++ x)) ≡ behind ((b ∷ q) ∷ given) (cut_from (λ line. false) (length (b ∷ (q ++ joined given))) [] x)
    with_nul [] n e =
        let on : 1 + length (joined given) ≡ length (b ∷ joined given) = omega arith in
        ap (with_line (b ∷ [])) (cut-given (λ line. false) given 1 rest others e x ∙ ap (λ (k : ℕ). behind given (cut_from (λ line. false) k [] x)) on)
    with_nul (c ∷ q) n e = absurd cc

    go : (d : Bool) → (b == 0) ≡ d → (cond d (with_line (b ∷ []) (F ((line ++ joined given) ++ rest))) (record { lines = []; fault = line_fault NoNul 0 })).lines ≡ (b ∷ line) ∷ (given ++ others)
        → cond d (with_line (b ∷ []) (F ((line ++ joined given) ++ x))) (record { lines = []; fault = line_fault NoNul 0 })
        ≡ behind ((b ∷ line) ∷ given) (client_ahead (record { place = length (b ∷ (line ++ joined given)); left = x; bad = bad }))
    go true k e =
        with_nul line (no_more line (same_head (b ∷ []) (b ∷ line) (F ((line ++ joined given) ++ rest)).lines (given ++ others) e))
        (same_tail (b ∷ []) (b ∷ line) (F ((line ++ joined given) ++ rest)).lines (given ++ others) e)
        ∙ ap (behind ((b ∷ line) ∷ given)) (sym (client_ahead-lines (length (b ∷ (line ++ joined given))) x bad (omega arith)))
    go false k e = absurd cc
