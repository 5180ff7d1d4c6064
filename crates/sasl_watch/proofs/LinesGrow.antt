-- The lines of a stream that goes on: lines are kept, a fault stays, and bytes after the lines are only added to.
use Rattle.std.proofs.Common.{◌≡◌, ℕ, zero, suc, ◌+◌, ◌-◌, ◌≤◌, ◌<◌, Bool, true, false, cond, List, [], ◌∷◌, ◌++◌, length, take, drop, Option, Some, None, refl, sym, ap, ◌∙◌, append_assoc, append-nil, arith}
use Rattle.std.specs.Prelude.{not, ◌&&◌, ◌||◌, ◌==◌, nat_lt}
use Rattle.std.specs.List.{list_any}
use Rattle.std.proofs.lemmas.List.{length-append, length-take, length-drop, drop-append-le, append_cancel_left, take_all, nil_from_length}
use Rattle.std.proofs.Math.Seq.{drop-append_seam}
use Rattle.std.proofs.lemmas.Bool.{eq-eqb, eqb-true, ltb-true, ltb-false, lt-ltb, le-ltb}
use Rattle.sasl_watch.specs.Lines.{Cut, with_line, after_byte, at_byte, cut_from, byte_fault, joined, through, is_begin, agrees, client_cut, client_lines, has_begun, after_begin, asked, client_fault, bus_cut, bus_lines, after_lines, bus_fault, line_fault}
use Rattle.sasl_watch.specs.declared.LineKind.{LineKind}
use Rattle.sasl_watch.specs.declared.LineKind.TheVariants.{NoNul, EarlyBus}
use Rattle.sasl_watch.specs.declared.LineFault.{LineFault}
use Rattle.sasl_watch.proofs.LinesLaws.{Begins, cut-append, client_cut-append, client_lines-append}

abbrev no_fault : Option LineFault
no_fault = None

-- ---- the whole lines are the first bytes of a stream

abbrev pub Fronts : List ℕ → List (List ℕ) → Type 0
Fronts bytes lines = (rest : List ℕ) × (bytes ≡ joined lines ++ rest)

pub cut-fronts : (refused : List ℕ → Bool) (s : List ℕ) (place : ℕ) (line : List ℕ) → Fronts (line ++ s) (cut_from refused place line s).lines
cut-fronts refused [] place line = (line ++ [], refl)
cut-fronts refused (b ∷ s) place line = at_it (λ next. cut-fronts refused s (place + 1) next) (byte_fault refused line b)
  where
    F : List ℕ → Cut
    F next = cut_from refused (place + 1) next s

    moved : (line ++ b ∷ []) ++ s ≡ line ++ b ∷ s
    moved = append_assoc line (b ∷ []) s

    behind : ((next : List ℕ) → Fronts (next ++ s) (F next).lines) → (e : Bool) → Fronts (line ++ b ∷ s) (after_byte e (line ++ b ∷ []) F).lines
    behind ih true =
        let m = ih [] in
        (m.0, sym moved ∙ ap (λ (t : List ℕ). (line ++ b ∷ []) ++ t) m.1 ∙ sym (append_assoc (line ++ b ∷ []) (joined (F []).lines) m.0))
    behind ih false = let m = ih (line ++ b ∷ []) in (m.0, sym moved ∙ m.1)

    at_it : ((next : List ℕ) → Fronts (next ++ s) (F next).lines) → (f : Option LineKind) → Fronts (line ++ b ∷ s) (at_byte f place b line F).lines
    at_it ih (Some kind) = (line ++ b ∷ s, refl)
    at_it ih None = behind ih (b == 10)

client_cut-fronts : (s : List ℕ) → Fronts s (client_cut s).lines
client_cut-fronts [] = ([], refl)
client_cut-fronts (b ∷ s) = go (b == 0)
  where
    go : (e : Bool) → Fronts (b ∷ s) (cond e (with_line (b ∷ []) (cut_from (λ line. false) 1 [] s)) (record { lines = []; fault = line_fault NoNul 0 })).lines
    go true = let m = cut-fronts (λ line. false) s 1 [] in (m.0, ap (λ (t : List ℕ). b ∷ t) m.1)
    go false = (b ∷ s, refl)

-- fewer of the lines are the first bytes too
fewer : (bytes : List ℕ) (lines more : List (List ℕ)) → Fronts bytes (lines ++ more) → Fronts bytes lines
fewer bytes lines more (rest, e) = (joined more ++ rest, e ∙ ap (λ (t : List ℕ). t ++ rest) (joined-append lines more) ∙ append_assoc (joined lines) (joined more) rest)
  where
    joined-append : (xs ys : List (List ℕ)) → joined (xs ++ ys) ≡ joined xs ++ joined ys
    joined-append [] ys = refl
    joined-append (x ∷ xs) ys = ap (λ (t : List ℕ). x ++ t) (joined-append xs ys) ∙ sym (append_assoc x (joined xs) (joined ys))

fronts-le : (bytes : List ℕ) (lines : List (List ℕ)) → Fronts bytes lines → length (joined lines) ≤ length bytes
fronts-le bytes lines (rest, e) = omega (arith, ap length e, length-append (joined lines) rest)

-- what follows lines that are the first bytes goes on with the stream
drop_fronts : (bytes x : List ℕ) (lines : List (List ℕ)) → Fronts bytes lines → drop (length (joined lines)) (bytes ++ x) ≡ drop (length (joined lines)) bytes ++ x
drop_fronts bytes x lines f = drop-append-le (length (joined lines)) bytes x (fronts-le bytes lines f)

-- lines that are the first bytes and what follows them are the whole stream
fronts-whole : (bytes : List ℕ) (lines : List (List ℕ)) → Fronts bytes lines → joined lines ++ drop (length (joined lines)) bytes ≡ bytes
fronts-whole bytes lines (rest, e) =
    ap (λ (t : List ℕ). joined lines ++ drop (length (joined lines)) t) e
    ∙ ap (λ (t : List ℕ). joined lines ++ t) (drop-append_seam (joined lines) rest)
    ∙ sym e

-- ---- a fault stays, with the lines before it

pub cut-stays : (refused : List ℕ → Bool) (s x : List ℕ) (place : ℕ) (line : List ℕ) (f : LineFault) → (cut_from refused place line s).fault ≡ Some f → cut_from refused place line (s ++ x) ≡ cut_from refused place line s
cut-stays refused [] x place line f e = absurd cc
cut-stays refused (b ∷ s) x place line f e = at_it (λ next. cut-stays refused s x (place + 1) next f) (byte_fault refused line b) e
  where
    F : List ℕ → Cut
    F next = cut_from refused (place + 1) next s

    G : List ℕ → Cut
    G next = cut_from refused (place + 1) next (s ++ x)

    behind : ((next : List ℕ) → (F next).fault ≡ Some f → G next ≡ F next) → (e : Bool) → (after_byte e (line ++ b ∷ []) F).fault ≡ Some f → after_byte e (line ++ b ∷ []) G ≡ after_byte e (line ++ b ∷ []) F
    behind ih true h = ap (with_line (line ++ b ∷ [])) (ih [] h)
    behind ih false h = ih (line ++ b ∷ []) h

    at_it : ((next : List ℕ) → (F next).fault ≡ Some f → G next ≡ F next) → (k : Option LineKind) → (at_byte k place b line F).fault ≡ Some f → at_byte k place b line G ≡ at_byte k place b line F
    at_it ih (Some kind) h = refl
    at_it ih None h = behind ih (b == 10) h

pub client_cut-stays : (s x : List ℕ) (f : LineFault) → (client_cut s).fault ≡ Some f → client_cut (s ++ x) ≡ client_cut s
client_cut-stays [] x f e = absurd cc
client_cut-stays (b ∷ s) x f e = go (b == 0) e
  where
    go : (d : Bool) → (cond d (with_line (b ∷ []) (cut_from (λ line. false) 1 [] s)) (record { lines = []; fault = line_fault NoNul 0 })).fault ≡ Some f →
        cond d (with_line (b ∷ []) (cut_from (λ line. false) 1 [] (s ++ x))) (record { lines = []; fault = line_fault NoNul 0 }) ≡ cond d (with_line (b ∷ []) (cut_from (λ line. false) 1 [] s)) (record { lines = []; fault = line_fault NoNul 0 })
    go true h = ap (with_line (b ∷ [])) (cut-stays (λ line. false) s x 1 [] f h)
    go false h = refl

-- ---- the client's stream

any-append : (test : List ℕ → Bool) (lines more : List (List ℕ)) → list_any test lines ≡ true → list_any test (lines ++ more) ≡ true
any-append test [] more e = absurd cc
any-append test (line ∷ lines) more e = go (test line) (any-append test lines more) e
  where
    go : (b : Bool) → (list_any test lines ≡ true → list_any test (lines ++ more) ≡ true) → (b || list_any test lines) ≡ true → (b || list_any test (lines ++ more)) ≡ true
    go true ih h = refl
    go false ih h = ih h

-- nothing follows the first line that passes
through-stays : (test : List ℕ → Bool) (lines more : List (List ℕ)) → list_any test (through test lines) ≡ true → through test (lines ++ more) ≡ through test lines
through-stays test [] more e = absurd cc
through-stays test (line ∷ lines) more e = go (test line) refl (through-stays test lines more) e
  where
    go : (b : Bool) → test line ≡ b → (list_any test (through test lines) ≡ true → through test (lines ++ more) ≡ through test lines) → (test line || list_any test (cond b [] (through test lines))) ≡ true → line ∷ cond b [] (through test (lines ++ more)) ≡ line ∷ cond b [] (through test lines)
    go true h ih e = refl
    go false h ih e = ap (λ (ls : List (List ℕ)). line ∷ ls) (ih (sym (ap (λ (b : Bool). b || list_any test (through test lines)) h) ∙ e))

through-fronts : (bytes : List ℕ) (test : List ℕ → Bool) (lines : List (List ℕ)) → Fronts bytes lines → Fronts bytes (through test lines)
through-fronts bytes test lines f = let m = of_all test lines in fewer bytes (through test lines) m.0 (f.0, f.1 ∙ ap (λ (ls : List (List ℕ)). joined ls ++ f.0) m.1)
  where
    of_all : (test : List ℕ → Bool) (lines : List (List ℕ)) → Begins (through test lines) lines
    of_all test [] = ([], refl)
    of_all test (line ∷ lines) = go (test line) (of_all test lines)
      where
        go : (b : Bool) → Begins (through test lines) lines → Begins (line ∷ cond b [] (through test lines)) (line ∷ lines)
        go true ih = (lines, refl)
        go false ih = (ih.0, ap (λ (ls : List (List ℕ)). line ∷ ls) ih.1)

-- once BEGIN was seen, the lines stay
pub client_lines-stay : (s x : List ℕ) → has_begun s ≡ true → client_lines (s ++ x) ≡ client_lines s
client_lines-stay s x h =
    let m = client_cut-append s x in
    ap (through is_begin) m.1 ∙ through-stays is_begin (client_cut s).lines m.0 h

pub has_begun-stays : (s x : List ℕ) → has_begun s ≡ true → has_begun (s ++ x) ≡ true
has_begun-stays s x h = ap (list_any is_begin) (client_lines-stay s x h) ∙ h

-- what follows BEGIN goes on with the stream
pub after_begin-append : (s x : List ℕ) → has_begun s ≡ true → after_begin (s ++ x) ≡ after_begin s ++ x
after_begin-append s x h =
    let lines = client_lines s in
    let front = through-fronts s is_begin (client_cut s).lines (client_cut-fronts s) in
    ap (λ (b : Bool). cond b (drop (length (joined (client_lines (s ++ x)))) (s ++ x)) []) (has_begun-stays s x h)
    ∙ ap (λ (ls : List (List ℕ)). drop (length (joined ls)) (s ++ x)) (client_lines-stay s x h)
    ∙ drop_fronts s x lines front
    ∙ sym (ap (λ (b : Bool). cond b (drop (length (joined lines)) s) [] ++ x) h)

-- once BEGIN was seen, the lines and what follows them are the whole stream
pub client_is_whole : (s : List ℕ) → has_begun s ≡ true → joined (client_lines s) ++ after_begin s ≡ s
client_is_whole s h =
    let lines = client_lines s in
    ap (λ (b : Bool). joined lines ++ cond b (drop (length (joined lines)) s) []) h
    ∙ fronts-whole s lines (through-fronts s is_begin (client_cut s).lines (client_cut-fronts s))

-- a fault stays, with the lines before it, and BEGIN stays unseen
pub client_fault-stays : (s x : List ℕ) (f : LineFault) → client_fault s ≡ Some f → (client_lines (s ++ x) ≡ client_lines s) × (client_fault (s ++ x) ≡ Some f) × (has_begun s ≡ false)
client_fault-stays s x f e = go (has_begun s) refl e
  where
    go : (b : Bool) → has_begun s ≡ b → cond b no_fault (client_cut s).fault ≡ Some f → (client_lines (s ++ x) ≡ client_lines s) × (client_fault (s ++ x) ≡ Some f) × (has_begun s ≡ false)
    go true h e = absurd cc
    go false h e =
        let same : client_cut (s ++ x) ≡ client_cut s = client_cut-stays s x f e in
        let lines : client_lines (s ++ x) ≡ client_lines s = ap (λ (c : Cut). through is_begin c.lines) same in
        (lines, ap (λ (b : Bool). cond b no_fault (client_cut (s ++ x)).fault) (ap (list_any is_begin) lines ∙ h) ∙ ap (λ (c : Cut). c.fault) same ∙ e, h)

-- ---- the bus's stream

take-begins : (n : ℕ) (lines more : List (List ℕ)) → Begins (take n lines) (take n (lines ++ more))
take-begins zero lines more = ([], refl)
take-begins (suc n) [] more = (take (suc n) more, refl)
take-begins (suc n) (line ∷ lines) more = let m = take-begins n lines more in (m.0, ap (λ (ls : List (List ℕ)). line ∷ ls) m.1)

take-grows : (n m : ℕ) (lines : List (List ℕ)) → n ≤ m → Begins (take n lines) (take m lines)
take-grows zero m lines h = (take m lines, refl)
take-grows (suc n) zero lines h = absurd (omega (arith, h))
take-grows (suc n) (suc m) [] h = ([], refl)
take-grows (suc n) (suc m) (line ∷ lines) h = let t = take-grows n m lines (omega (arith, h)) in (t.0, ap (λ (ls : List (List ℕ)). line ∷ ls) t.1)

-- with more bytes
pub bus_lines-append : (n : ℕ) (s x : List ℕ) → Begins (bus_lines n s) (bus_lines n (s ++ x))
bus_lines-append n s x =
    let m = cut-append agrees s x 0 [] in
    let t = take-begins n (bus_cut s).lines m.0 in
    (t.0, ap (take n) m.1 ∙ t.1)

-- with a greater number
pub bus_lines-more : (n m : ℕ) (s : List ℕ) → n ≤ m → Begins (bus_lines n s) (bus_lines m s)
bus_lines-more n m s h = take-grows n m (bus_cut s).lines h

-- all n have come: they stay
take-stays : (n : ℕ) (lines more : List (List ℕ)) → length (take n lines) ≡ n → take n (lines ++ more) ≡ take n lines
take-stays zero lines more e = refl
take-stays (suc n) [] more e = absurd cc
take-stays (suc n) (line ∷ lines) more e = ap (λ (ls : List (List ℕ)). line ∷ ls) (take-stays n lines more (omega (arith, e)))

pub bus_lines-stay : (n : ℕ) (s x : List ℕ) → length (bus_lines n s) ≡ n → bus_lines n (s ++ x) ≡ bus_lines n s
bus_lines-stay n s x e =
    let m = cut-append agrees s x 0 [] in
    ap (take n) m.1 ∙ take-stays n (bus_cut s).lines m.0 e

taken-fronts : (n : ℕ) (s : List ℕ) → Fronts s (bus_lines n s)
taken-fronts n s =
    let f = cut-fronts agrees s 0 [] in
    let m = of_all n (bus_cut s).lines in
    fewer s (bus_lines n s) m.0 (f.0, f.1 ∙ ap (λ (ls : List (List ℕ)). joined ls ++ f.0) m.1)
  where
    of_all : (n : ℕ) (lines : List (List ℕ)) → Begins (take n lines) lines
    of_all zero lines = (lines, refl)
    of_all (suc n) [] = ([], refl)
    of_all (suc n) (line ∷ lines) = let m = of_all n lines in (m.0, ap (λ (ls : List (List ℕ)). line ∷ ls) m.1)

pub if_all_is : (n : ℕ) (s : List ℕ) → length (bus_lines n s) ≡ n → after_lines n s ≡ drop (length (joined (bus_lines n s))) s
if_all_is n s e = ap (λ (b : Bool). cond b (drop (length (joined (bus_lines n s))) s) []) (eq-eqb (length (bus_lines n s)) n e)

-- once all n have come, they and what follows them are the whole stream
pub bus_is_whole : (n : ℕ) (s : List ℕ) → length (bus_lines n s) ≡ n → joined (bus_lines n s) ++ after_lines n s ≡ s
bus_is_whole n s e =
    ap (λ (t : List ℕ). joined (bus_lines n s) ++ t) (if_all_is n s e) ∙ fronts-whole s (bus_lines n s) (taken-fronts n s)

-- what follows the lines goes on with the stream
pub after_lines-append : (n : ℕ) (s x : List ℕ) → length (bus_lines n s) ≡ n → after_lines n (s ++ x) ≡ after_lines n s ++ x
after_lines-append n s x e =
    let stay : bus_lines n (s ++ x) ≡ bus_lines n s = bus_lines-stay n s x e in
    if_all_is n (s ++ x) (ap length stay ∙ e)
    ∙ ap (λ (ls : List (List ℕ)). drop (length (joined ls)) (s ++ x)) stay
    ∙ drop_fronts s x (bus_lines n s) (taken-fronts n s)
    ∙ ap (λ (t : List ℕ). t ++ x) (sym (if_all_is n s e))

-- ---- a fault of the bus's stream stays

abbrev pub early : Bool → ℕ → List ℕ → Option LineFault
early begun n s = cond (not begun && nat_lt 0 (length (after_lines n s))) (line_fault EarlyBus (length (joined (bus_lines n s)))) None

pub all_or_fewer : (n : ℕ) (s : List ℕ) → nat_lt (length (bus_lines n s)) n ≡ false → length (bus_lines n s) ≡ n
all_or_fewer n s e = omega (arith, ltb-false (length (bus_lines n s)) n e, length-take n (bus_cut s).lines)

-- if there are fewer lines, nothing follows them yet
pub fewer_then_none : (n : ℕ) (s : List ℕ) → nat_lt (length (bus_lines n s)) n ≡ true → after_lines n s ≡ []
fewer_then_none n s e = go (length (bus_lines n s) == n) refl
  where
    go : (b : Bool) → (length (bus_lines n s) == n) ≡ b → cond b (drop (length (joined (bus_lines n s))) s) [] ≡ []
    go false h = refl
    go true h = absurd (omega (arith, eqb-true (length (bus_lines n s)) n h, ltb-true (length (bus_lines n s)) n e))

-- what a faulty stream of the bus keeps
pub record Stays (n : ℕ) (begun : Bool) (s x : List ℕ) (f : LineFault) : Type 0 where
  pub lines : bus_lines n (s ++ x) ≡ bus_lines n s
  pub fault : bus_fault n begun (s ++ x) ≡ Some f
  pub behind : begun ≡ true → (after_lines n (s ++ x) ≡ []) × (after_lines n s ≡ [])

pub bus_fault-stays : (n : ℕ) (begun : Bool) (s x : List ℕ) (f : LineFault) → bus_fault n begun s ≡ Some f → Stays n begun s x f
bus_fault-stays n begun s x f e = go (nat_lt (length (bus_lines n s)) n) refl e
  where
    in_cut : nat_lt (length (bus_lines n s)) n ≡ true → (bus_cut s).fault ≡ Some f → Stays n begun s x f
    in_cut h e =
        let same : bus_cut (s ++ x) ≡ bus_cut s = cut-stays agrees s x 0 [] f e in
        let lines : bus_lines n (s ++ x) ≡ bus_lines n s = ap (λ (c : Cut). take n c.lines) same in
        let still : nat_lt (length (bus_lines n (s ++ x))) n ≡ true = ap (λ (ls : List (List ℕ)). nat_lt (length ls) n) lines ∙ h in
        record {
          lines = lines;
          fault = ap (λ (b : Bool). cond b (bus_cut (s ++ x)).fault (early begun n (s ++ x))) still ∙ ap (λ (c : Cut). c.fault) same ∙ e;
          behind = λ b. (fewer_then_none n (s ++ x) still, fewer_then_none n s h);
        }

    behind_lines : nat_lt (length (bus_lines n s)) n ≡ false → (b : Bool) → begun ≡ b → early b n s ≡ Some f → Stays n begun s x f
    behind_lines h true is e = absurd cc
    behind_lines h false is e =
        let all : length (bus_lines n s) ≡ n = all_or_fewer n s h in
        let lines : bus_lines n (s ++ x) ≡ bus_lines n s = bus_lines-stay n s x all in
        let still : nat_lt (length (bus_lines n (s ++ x))) n ≡ false = ap (λ (ls : List (List ℕ)). nat_lt (length ls) n) lines ∙ h in
        record {
          lines = lines;
          fault = ap (λ (b : Bool). cond b (bus_cut (s ++ x)).fault (early begun n (s ++ x))) still ∙ ap (λ (b : Bool). early b n (s ++ x)) is ∙ at_once all lines (nat_lt 0 (length (after_lines n s))) refl e;
          behind = λ b. absurd (not_both begun b is);
        }
      where
        not_both : (b : Bool) → b ≡ true → b ≡ false → ⊥
        not_both true p q = cc
        not_both false p q = cc

        at_once : length (bus_lines n s) ≡ n → bus_lines n (s ++ x) ≡ bus_lines n s → (b : Bool) → nat_lt 0 (length (after_lines n s)) ≡ b → cond b (line_fault EarlyBus (length (joined (bus_lines n s)))) None ≡ Some f → early false n (s ++ x) ≡ Some f
        at_once all lines false h e = absurd cc
        at_once all lines true h e =
            let longer : nat_lt 0 (length (after_lines n (s ++ x))) ≡ true = lt-ltb 0 (length (after_lines n (s ++ x))) (omega (arith, ltb-true 0 (length (after_lines n s)) h, ap length (after_lines-append n s x all), length-append (after_lines n s) x)) in
            ap (λ (b : Bool). cond b (line_fault EarlyBus (length (joined (bus_lines n (s ++ x))))) None) longer
            ∙ ap (λ (ls : List (List ℕ)). line_fault EarlyBus (length (joined ls))) lines ∙ e

    go : (b : Bool) → nat_lt (length (bus_lines n s)) n ≡ b → cond b (bus_cut s).fault (early begun n s) ≡ Some f → Stays n begun s x f
    go true h e = in_cut h e
    go false h e = behind_lines h begun refl e

-- after all its lines, a bus that may speak is at no fault here
pub no_bus_fault : (n : ℕ) (s : List ℕ) → length (bus_lines n s) ≡ n → bus_fault n true s ≡ None
no_bus_fault n s e = ap (λ (b : Bool). cond b (bus_cut s).fault no_fault) (le-ltb (length (bus_lines n s)) n (omega (arith, e)))

-- ---- more lines are asked for

none_taken : (n : ℕ) → take {A = List ℕ} n [] ≡ []
none_taken zero = refl
none_taken (suc n) = refl

-- a stream that is just these lines has no others, and no fault
cut_whole : (refused : List ℕ → Bool) (n : ℕ) (s : List ℕ) (place : ℕ) (line : List ℕ) →
    let c = cut_from refused place line s in length (take n c.lines) ≡ n → joined (take n c.lines) ≡ line ++ s → (c.lines ≡ take n c.lines) × (c.fault ≡ None)
cut_whole refused n [] place line h e = (sym (none_taken n), refl)
cut_whole refused n (b ∷ s) place line h e = at_it (λ k next. cut_whole refused k s (place + 1) next) (byte_fault refused line b) h e
  where
    F : List ℕ → Cut
    F next = cut_from refused (place + 1) next s

    Whole : ℕ → Cut → List ℕ → Type 0
    Whole n c bytes = length (take n c.lines) ≡ n → joined (take n c.lines) ≡ bytes → (c.lines ≡ take n c.lines) × (c.fault ≡ None)

    not_empty : (front : List ℕ) → [] ≡ front ++ b ∷ s → ⊥
    not_empty [] e = absurd cc
    not_empty (c ∷ front) e = absurd cc

    behind : ((k : ℕ) (next : List ℕ) → Whole k (F next) (next ++ s)) → (n : ℕ) (e : Bool) → Whole n (after_byte e (line ++ b ∷ []) F) (line ++ b ∷ s)
    behind ih n false h e = ih n (line ++ b ∷ []) h (e ∙ sym (append_assoc line (b ∷ []) s))
    behind ih zero true h e = absurd (not_empty line e)
    behind ih (suc n) true h e =
        let rest : joined (take n (F []).lines) ≡ s = append_cancel_left (line ++ b ∷ []) (joined (take n (F []).lines)) s (e ∙ sym (append_assoc line (b ∷ []) s)) in
        let r = ih n [] (omega (arith, h)) rest in
        (ap (λ (ls : List (List ℕ)). (line ++ b ∷ []) ∷ ls) r.0, r.1)

    at_it : ((k : ℕ) (next : List ℕ) → Whole k (F next) (next ++ s)) → (f : Option LineKind) → Whole n (at_byte f place b line F) (line ++ b ∷ s)
    at_it ih (Some kind) h e = absurd (not_empty line (sym (ap joined (none_taken n)) ∙ e))
    at_it ih None h e = behind ih n (b == 10) h e

-- what the bus's stream keeps when more lines are asked for
pub record Quiet (n m : ℕ) (s : List ℕ) : Type 0 where
  pub lines : bus_lines m s ≡ bus_lines n s
  pub behind : after_lines m s ≡ []
  pub fault : (begun : Bool) → bus_fault m begun s ≡ None

-- more bytes may come than were asked for only with a fault: so what is asked later finds nothing new in what came
pub bus_quiet : (n m : ℕ) (s : List ℕ) → n ≤ m → bus_fault n false s ≡ None → Quiet n m s
bus_quiet n m s le e = go (nat_lt (length (bus_lines n s)) n) refl e
  where
    lines : List (List ℕ)
    lines = (bus_cut s).lines

    few : nat_lt (length (bus_lines n s)) n ≡ true → (bus_cut s).fault ≡ None → Quiet n m s
    few h e =
        let short : length (bus_lines n s) < n = ltb-true (length (bus_lines n s)) n h in
        let short_all : length lines < n = omega (arith, short, length-take n lines) in
        let all_n : take n lines ≡ lines = take_all n lines (omega (arith, short_all)) in
        let all_m : take m lines ≡ lines = take_all m lines (omega (arith, short_all, le)) in
        let still : nat_lt (length (bus_lines m s)) m ≡ true = lt-ltb (length (bus_lines m s)) m (omega (arith, ap length all_m, short_all, le)) in
        record {
          lines = all_m ∙ sym all_n;
          behind = fewer_then_none m s still;
          fault = λ begun. ap (λ (b : Bool). cond b (bus_cut s).fault (early begun m s)) still ∙ e;
        }

    all : nat_lt (length (bus_lines n s)) n ≡ false → (b : Bool) → nat_lt 0 (length (after_lines n s)) ≡ b → cond b (line_fault EarlyBus (length (joined (bus_lines n s)))) None ≡ None → Quiet n m s
    all h true k e = absurd cc
    all h false k e =
        let len : length (bus_lines n s) ≡ n = all_or_fewer n s h in
        let front = taken-fronts n s in
        let none : front.0 ≡ [] = nil_from_length front.0 (omega (arith, ltb-false 0 (length (after_lines n s)) k, ap length (if_all_is n s len), ap length front.1, length-append (joined (bus_lines n s)) front.0, length-drop (length (joined (bus_lines n s))) s)) in
        let whole = cut_whole agrees n s 0 [] len (sym (append-nil (joined (bus_lines n s))) ∙ ap (λ (t : List ℕ). joined (bus_lines n s) ++ t) (sym none) ∙ sym front.1) in
        let len_all : length lines ≡ n = ap length whole.0 ∙ len in
        let same : bus_lines m s ≡ bus_lines n s = take_all m lines (omega (arith, len_all, le)) ∙ whole.0 in
        record {
          lines = same;
          behind = end (length (bus_lines m s) == m) same;
          fault = λ begun. quiet begun (nat_lt (length (bus_lines m s)) m) whole.1 (end (length (bus_lines m s) == m) same);
        }
      where
        end : (b : Bool) → bus_lines m s ≡ bus_lines n s → cond b (drop (length (joined (bus_lines m s))) s) [] ≡ []
        end false same = refl
        end true same = ap (λ (ls : List (List ℕ)). drop (length (joined ls)) s) same ∙ sym (if_all_is n s (all_or_fewer n s h)) ∙ nil_from_length (after_lines n s) (omega (arith, ltb-false 0 (length (after_lines n s)) k))

        quiet : (begun b : Bool) → (bus_cut s).fault ≡ None → after_lines m s ≡ [] → cond b (bus_cut s).fault (early begun m s) ≡ None
        quiet begun true e behind = e
        quiet begun false e behind = ap (λ (t : List ℕ). cond (not begun && nat_lt 0 (length t)) (line_fault EarlyBus (length (joined (bus_lines m s)))) None) behind ∙ none begun
          where
            none : (begun : Bool) → cond (not begun && false) (line_fault EarlyBus (length (joined (bus_lines m s)))) None ≡ None
            none true = refl
            none false = refl

    go : (b : Bool) → nat_lt (length (bus_lines n s)) n ≡ b → cond b (bus_cut s).fault (early false n s) ≡ None → Quiet n m s
    go true h e = few h e
    go false h e = all h (nat_lt 0 (length (after_lines n s))) refl e

-- the longer a client's stream, the more it asked for
pub asked-grows : (s x : List ℕ) → asked s ≤ asked (s ++ x)
asked-grows s x = go (has_begun s) refl
  where
    more : Begins (client_lines s) (client_lines (s ++ x))
    more = client_lines-append s x

    count : List (List ℕ) → Bool → ℕ
    count lines b = length lines - 1 - cond b 1 0

    step : has_begun s ≡ false → (b : Bool) → has_begun (s ++ x) ≡ b → count (client_lines s) false ≤ count (client_lines (s ++ x)) b
    step h false k = omega (arith, ap length more.1, length-append (client_lines s) more.0)
    step h true k = one more.0 more.1
      where
        one : (ls : List (List ℕ)) → client_lines (s ++ x) ≡ client_lines s ++ ls → count (client_lines s) false ≤ count (client_lines (s ++ x)) true
        one [] e = absurd (both (has_begun s) h (sym (ap (list_any is_begin) (e ∙ append-nil (client_lines s))) ∙ k))
          where
            both : (b : Bool) → b ≡ false → b ≡ true → ⊥
            both true p q = cc
            both false p q = cc
        one (l ∷ ls) e = omega (arith, ap length e, length-append (client_lines s) (l ∷ ls))

    go : (b : Bool) → has_begun s ≡ b → asked s ≤ asked (s ++ x)
    go true h =
        let same : asked (s ++ x) ≡ asked s = ap (λ (ls : List (List ℕ)). count ls (list_any is_begin ls)) (client_lines-stay s x h) in
        omega (arith, same)
    go false h = ap_le (step h (has_begun (s ++ x)) refl)
      where
        ap_le : count (client_lines s) false ≤ count (client_lines (s ++ x)) (has_begun (s ++ x)) → asked s ≤ asked (s ++ x)
        ap_le p = let same : asked s ≡ count (client_lines s) false = ap (count (client_lines s)) h in omega (arith, p, same)

-- and no more once BEGIN was seen
pub asked-stays : (s x : List ℕ) → has_begun s ≡ true → asked (s ++ x) ≡ asked s
asked-stays s x h = ap (λ (ls : List (List ℕ)). length ls - 1 - cond (list_any is_begin ls) 1 0) (client_lines-stay s x h)
