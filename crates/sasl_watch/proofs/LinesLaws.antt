-- A stream that goes on keeps its lines.
use Rattle.std.proofs.Common.{◌≡◌, ℕ, ◌+◌, Bool, true, false, cond, List, [], ◌∷◌, ◌++◌, Option, Some, None, refl, ap, ◌∙◌}
use Rattle.std.specs.Prelude.{◌==◌}
use Rattle.sasl_watch.specs.Lines.{Cut, with_line, after_byte, at_byte, cut_from, byte_fault, through, is_begin, client_cut, client_lines, line_fault}
use Rattle.sasl_watch.specs.declared.LineKind.{LineKind}
use Rattle.sasl_watch.specs.declared.LineKind.TheVariants.{NoNul}

-- the longer list begins with the shorter
abbrev pub Begins : List (List ℕ) → List (List ℕ) → Type 0
Begins lines longer = (more : List (List ℕ)) × (longer ≡ lines ++ more)

nothing_more : (lines : List (List ℕ)) → Begins [] lines
nothing_more lines = (lines, refl)

pub cut-append : (refused : List ℕ → Bool) (s x : List ℕ) (place : ℕ) (line : List ℕ) → Begins (cut_from refused place line s).lines (cut_from refused place line (s ++ x)).lines
cut-append refused [] x place line = nothing_more (cut_from refused place line x).lines
cut-append refused (b ∷ s) x place line = at_it (λ next. cut-append refused s x (place + 1) next) (byte_fault refused line b)
  where
    F : List ℕ → Cut
    F next = cut_from refused (place + 1) next s

    G : List ℕ → Cut
    G next = cut_from refused (place + 1) next (s ++ x)

    behind : ((next : List ℕ) → Begins (F next).lines (G next).lines) → (e : Bool) → Begins (after_byte e (line ++ b ∷ []) F).lines (after_byte e (line ++ b ∷ []) G).lines
    behind ih true = let m = ih [] in (m.0, ap (λ (ls : List (List ℕ)). (line ++ b ∷ []) ∷ ls) m.1)
    behind ih false = ih (line ++ b ∷ [])

    at_it : ((next : List ℕ) → Begins (F next).lines (G next).lines) → (f : Option LineKind) → Begins (at_byte f place b line F).lines (at_byte f place b line G).lines
    at_it ih (Some kind) = nothing_more []
    at_it ih None = behind ih (b == 10)

pub through-append : (test : List ℕ → Bool) (lines more : List (List ℕ)) → Begins (through test lines) (through test (lines ++ more))
through-append test [] more = nothing_more (through test more)
through-append test (line ∷ lines) more = go (test line) (through-append test lines more)
  where
    go : (e : Bool) → Begins (through test lines) (through test (lines ++ more)) → Begins (line ∷ cond e [] (through test lines)) (line ∷ cond e [] (through test (lines ++ more)))
    go true ih = ([], refl)
    go false ih = (ih.0, ap (λ (ls : List (List ℕ)). line ∷ ls) ih.1)

pub client_cut-append : (s x : List ℕ) → Begins (client_cut s).lines (client_cut (s ++ x)).lines
client_cut-append [] x = nothing_more (client_cut x).lines
client_cut-append (b ∷ s) x = go (b == 0)
  where
    go : (e : Bool) → Begins (cond e (with_line (b ∷ []) (cut_from (λ line. false) 1 [] s)) (record { lines = []; fault = line_fault NoNul 0 })).lines (cond e (with_line (b ∷ []) (cut_from (λ line. false) 1 [] (s ++ x))) (record { lines = []; fault = line_fault NoNul 0 })).lines
    go true = let m = cut-append (λ line. false) s x 1 [] in (m.0, ap (λ (ls : List (List ℕ)). (b ∷ []) ∷ ls) m.1)
    go false = nothing_more []

-- the lines of a client's stream are the first ones of any longer stream
pub client_lines-append : (s x : List ℕ) → Begins (client_lines s) (client_lines (s ++ x))
client_lines-append s x =
    let m = client_cut-append s x in
    let t = through-append is_begin (client_cut s).lines m.0 in
    (t.0, ap (through is_begin) m.1 ∙ t.1)
