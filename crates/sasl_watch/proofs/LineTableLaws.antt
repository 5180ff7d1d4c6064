-- The faults of both sides' lines are those of the tables, in kind and place.
use Rattle.std.proofs.Common.{◌≡◌, ℕ, zero, suc, ◌+◌, Bool, true, false, cond, List, [], ◌∷◌, ◌++◌, length, take, drop, Option, Some, None, refl, sym, ap, ◌∙◌, append_assoc, append-nil, arith}
use Rattle.std.specs.Prelude.{not, ◌&&◌, ◌||◌, ◌==◌, nat_lt}
use Rattle.std.specs.Int.{is_in_range}
use Rattle.std.specs.List.{list_any}
use Rattle.std.proofs.lemmas.List.{length-append, drop_at, drop-drop}
use Rattle.std.proofs.lemmas.Bool.{eqb-true, lt-ltb, le-ltb, ltb-true, ltb-false}
use Rattle.std.proofs.lemmas.List.Folds.{list_any-append}
use Rattle.std.proofs.lemmas.Option.{same_Some}
use Rattle.std.proofs.Math.Bool.{and-false}
use Rattle.byte_lists.proofs.Options.{some}
use Rattle.sasl_watch.specs.Lines.{line_fault, Cut, with_line, after_byte, at_byte, cut_from, byte_fault, joined, through, is_begin, agrees, is_behind_cr, client_fault, bus_cut, bus_lines, bus_fault}
use Rattle.sasl_watch.specs.declared.LineKind.{LineKind}
use Rattle.sasl_watch.specs.declared.LineKind.TheVariants.{NoNul, LineTooLong, BadByte, EarlyBus, Agreed}
use Rattle.sasl_watch.specs.declared.LineFault.{LineFault}
use Rattle.sasl_watch.specs.LineTable.{ended_from, open_from, ended_lines, open_line, is_ending, is_too_long, is_bad_byte, is_agreed, Row, client_table, in_bus_line, bus_table, kind_by, unless_found, first_from, first_in, IsFirst}
use Rattle.sasl_watch.proofs.LinesGrow.{if_all_is, all_or_fewer, early}

-- ---- one byte more

-- the lines of some bytes, and the unfinished line after them
record At (before line : List ℕ) (lines : List (List ℕ)) : Type 0 where
  line_is : open_line before ≡ line
  lines_are : ended_lines before ≡ lines

ended_more : (line bytes : List ℕ) (b : ℕ) → ended_from line (bytes ++ b ∷ []) ≡ ended_from line bytes ++ cond (b == 10) ((open_from line bytes ++ b ∷ []) ∷ []) []
ended_more line [] b = refl
ended_more line (c ∷ bytes) b = go (c == 10) (ended_more [] bytes b) (ended_more (line ++ c ∷ []) bytes b)
  where
    go : (e : Bool) → ended_from [] (bytes ++ b ∷ []) ≡ ended_from [] bytes ++ cond (b == 10) ((open_from [] bytes ++ b ∷ []) ∷ []) []
        → ended_from (line ++ c ∷ []) (bytes ++ b ∷ []) ≡ ended_from (line ++ c ∷ []) bytes ++ cond (b == 10) ((open_from (line ++ c ∷ []) bytes ++ b ∷ []) ∷ []) []
        → cond e ((line ++ c ∷ []) ∷ ended_from [] (bytes ++ b ∷ [])) (ended_from (line ++ c ∷ []) (bytes ++ b ∷ []))
        ≡ cond e ((line ++ c ∷ []) ∷ ended_from [] bytes) (ended_from (line ++ c ∷ []) bytes) ++ cond (b == 10) ((cond e (open_from [] bytes) (open_from (line ++ c ∷ []) bytes) ++ b ∷ []) ∷ []) []
    go true p q = ap (λ (ls : List (List ℕ)). (line ++ c ∷ []) ∷ ls) p
    go false p q = q

open_more : (line bytes : List ℕ) (b : ℕ) → open_from line (bytes ++ b ∷ []) ≡ cond (b == 10) [] (open_from line bytes ++ b ∷ [])
open_more line [] b = refl
open_more line (c ∷ bytes) b = go (c == 10) (open_more [] bytes b) (open_more (line ++ c ∷ []) bytes b)
  where
    go : (e : Bool) → open_from [] (bytes ++ b ∷ []) ≡ cond (b == 10) [] (open_from [] bytes ++ b ∷ [])
        → open_from (line ++ c ∷ []) (bytes ++ b ∷ []) ≡ cond (b == 10) [] (open_from (line ++ c ∷ []) bytes ++ b ∷ [])
        → cond e (open_from [] (bytes ++ b ∷ [])) (open_from (line ++ c ∷ []) (bytes ++ b ∷ []))
        ≡ cond (b == 10) [] (cond e (open_from [] bytes) (open_from (line ++ c ∷ []) bytes) ++ b ∷ [])
    go true p q = p
    go false p q = q

at_end : (before line : List ℕ) (lines : List (List ℕ)) (b : ℕ) → (b == 10) ≡ true → At before line lines → At (before ++ b ∷ []) [] (lines ++ (line ++ b ∷ []) ∷ [])
at_end before line lines b e a = record {
  line_is = open_more [] before b ∙ ap (λ (c : Bool). cond c [] (open_line before ++ b ∷ [])) e;
  lines_are = ended_more [] before b ∙ ap (λ (c : Bool). ended_lines before ++ cond c ((open_line before ++ b ∷ []) ∷ []) []) e ∙ ap (λ (ls : List (List ℕ)). ls ++ (open_line before ++ b ∷ []) ∷ []) a.lines_are ∙ ap (λ (l : List ℕ). lines ++ (l ++ b ∷ []) ∷ []) a.line_is;
}

at_more : (before line : List ℕ) (lines : List (List ℕ)) (b : ℕ) → (b == 10) ≡ false → At before line lines → At (before ++ b ∷ []) (line ++ b ∷ []) lines
at_more before line lines b e a = record {
  line_is = open_more [] before b ∙ ap (λ (c : Bool). cond c [] (open_line before ++ b ∷ [])) e ∙ ap (λ (l : List ℕ). l ++ b ∷ []) a.line_is;
  lines_are = ended_more [] before b ∙ ap (λ (c : Bool). ended_lines before ++ cond c ((open_line before ++ b ∷ []) ∷ []) []) e ∙ append-nil (ended_lines before) ∙ a.lines_are;
}

-- ---- one byte by its rows

abbrev by_rows : Bool → Bool → Bool → Option LineKind
by_rows long bad agreed = cond long (Some LineTooLong) (cond bad (Some BadByte) (cond agreed (Some Agreed) None))

byte_rows : (refused : List ℕ → Bool) (line : List ℕ) (b : ℕ) → by_rows (is_too_long line b) (is_bad_byte line b) (is_ending line b && refused (line ++ b ∷ [])) ≡ byte_fault refused line b
byte_rows refused line b = go (is_too_long line b) (is_behind_cr line) (b == 10) (refused (line ++ b ∷ [])) (is_in_range 0x20 0x7E b || b == 13)
  where
    go : (long cr lf agreed fine : Bool) → by_rows long (cond cr (not lf) (not fine)) (cr && lf && agreed)
        ≡ cond long (Some LineTooLong) (cond cr (cond (not lf) (Some BadByte) (cond agreed (Some Agreed) None)) (cond fine None (Some BadByte)))
    go true cr lf agreed fine = refl
    go false true true true fine = refl
    go false true true false fine = refl
    go false true false agreed fine = refl
    go false false lf agreed true = refl
    go false false lf agreed false = refl

-- ---- the bus

bus_byte : (n : ℕ) (begun : Bool) (before line : List ℕ) (lines : List (List ℕ)) (b : ℕ) → At before line lines → nat_lt (length lines) n ≡ true → kind_by (bus_table n begun) before b ≡ byte_fault agrees line b
bus_byte n begun before line lines b a h =
    let awaits : in_bus_line n before ≡ true = ap (λ (ls : List (List ℕ)). nat_lt (length ls) n) a.lines_are ∙ h in
    ap (λ (w : Bool). cond (not w && not begun) (Some EarlyBus) (by_rows (w && is_too_long (open_line before) b) (w && is_bad_byte (open_line before) b) (w && is_agreed (open_line before) b))) awaits
    ∙ ap (λ (l : List ℕ). by_rows (is_too_long l b) (is_bad_byte l b) (is_agreed l b)) a.line_is
    ∙ byte_rows agrees line b

-- after all lines
behind_byte : (n : ℕ) (begun : Bool) (before : List ℕ) (b : ℕ) → in_bus_line n before ≡ false → kind_by (bus_table n begun) before b ≡ cond begun None (Some EarlyBus)
behind_byte n begun before b h =
    ap (λ (w : Bool). cond (not w && not begun) (Some EarlyBus) (by_rows (w && is_too_long (open_line before) b) (w && is_bad_byte (open_line before) b) (w && is_agreed (open_line before) b))) h ∙ go begun
  where
    go : (d : Bool) → cond (not d) (some EarlyBus) None ≡ cond d None (Some EarlyBus)
    go true = refl
    go false = refl

still_behind : (n : ℕ) (before : List ℕ) (b : ℕ) → in_bus_line n before ≡ false → in_bus_line n (before ++ b ∷ []) ≡ false
still_behind n before b h =
    le-ltb (length (ended_lines (before ++ b ∷ []))) n
    (omega (arith, ltb-false (length (ended_lines before)) n h, ap length (ended_more [] before b), length-append (ended_lines before) (cond (b == 10) ((open_line before ++ b ∷ []) ∷ []) [])))

-- a bus that may speak has no fault there
nothing_behind : (n : ℕ) (before s : List ℕ) → in_bus_line n before ≡ false → first_from (bus_table n true) before s ≡ None
nothing_behind n before [] h = refl
nothing_behind n before (b ∷ s) h =
    ap (λ (k : Option LineKind). unless_found k (length before) (first_from (bus_table n true) (before ++ b ∷ []) s)) (behind_byte n true before b h)
    ∙ nothing_behind n (before ++ b ∷ []) s (still_behind n before b h)

-- what the definition finds from a line's first byte on, if k lines are awaited
abbrev out : ℕ → Bool → ℕ → List ℕ → Cut → Option LineFault
out k begun start bytes c =
    cond (nat_lt (length (take k c.lines)) k) c.fault
    (cond (not begun && nat_lt 0 (length (drop (length (joined (take k c.lines))) bytes))) (line_fault EarlyBus (start + length (joined (take k c.lines)))) None)

none_lt : (k : ℕ) → nat_lt 0 (suc k) ≡ true
none_lt k = lt-ltb 0 (suc k) (omega arith)

suc_lt : (a k : ℕ) → nat_lt (suc a) (suc k) ≡ nat_lt a k
suc_lt a k = go (nat_lt a k) refl
  where
    go : (b : Bool) → nat_lt a k ≡ b → nat_lt (suc a) (suc k) ≡ b
    go true h = lt-ltb (suc a) (suc k) (omega (arith, ltb-true a k h))
    go false h = le-ltb (suc a) (suc k) (omega (arith, ltb-false a k h))

-- a whole line is first
out_line : (k : ℕ) (begun : Bool) (start : ℕ) (line s : List ℕ) (c : Cut) → out (suc k) begun start (line ++ s) (with_line line c) ≡ out k begun (start + length line) s c
out_line k begun start line s c =
    let rest = joined (take k c.lines) in
    let len : length (line ++ rest) ≡ length line + length rest = length-append line rest in
    ap (λ (b : Bool). cond b c.fault (cond (not begun && nat_lt 0 (length (drop (length (line ++ rest)) (line ++ s)))) (line_fault EarlyBus (start + length (line ++ rest))) None)) (suc_lt (length (take k c.lines)) k)
    ∙ ap (λ (t : List ℕ). cond (nat_lt (length (take k c.lines)) k) c.fault (cond (not begun && nat_lt 0 (length t)) (line_fault EarlyBus (start + length (line ++ rest))) None)) (ap (λ (n : ℕ). drop n (line ++ s)) len ∙ drop-append-add line s (length rest))
    ∙ ap (λ (n : ℕ). cond (nat_lt (length (take k c.lines)) k) c.fault (cond (not begun && nat_lt 0 (length (drop (length rest) s))) (line_fault EarlyBus n) None)) (omega (arith, len))
  where
    drop-append-add : (xs ys : List ℕ) (n : ℕ) → drop (length xs + n) (xs ++ ys) ≡ drop n ys
    drop-append-add xs ys n = sym (drop-drop n (length xs) (xs ++ ys)) ∙ ap (drop n) (drop_at xs ys (length xs) refl)

abbrev Scans : ℕ → Bool → List ℕ → Type 0
Scans n begun s = (k : ℕ) (before line : List ℕ) (lines : List (List ℕ)) (start : ℕ) → At before line lines → length lines + k ≡ n → start + length line ≡ length before → (k ≡ 0 → line ≡ []) →
    first_from (bus_table n begun) before s ≡ out k begun start (line ++ s) (cut_from agrees (length before) line s)

bus_scan : (n : ℕ) (begun : Bool) (s : List ℕ) → Scans n begun s
bus_scan n begun [] zero before line lines start a c p z = sym (ap (λ (l : List ℕ). cond (not begun && nat_lt 0 (length (l ++ []))) (line_fault EarlyBus (start + 0)) None) (z refl) ∙ none begun)
  where
    none : (d : Bool) → cond (not d && false) (line_fault EarlyBus (start + 0)) None ≡ None
    none true = refl
    none false = refl
bus_scan n begun [] (suc k) before line lines start a c p z =
    sym (ap (λ (b : Bool). cond b no_fault (cond (not begun && nat_lt 0 (length (drop 0 (line ++ [])))) (line_fault EarlyBus (start + 0)) None)) (none_lt k))
  where
    no_fault : Option LineFault
    no_fault = None
bus_scan n begun (b ∷ s) zero before line lines start a c p z = go begun (le-ltb (length (ended_lines before)) n (omega (arith, ap length a.lines_are, c)))
  where
    go : (d : Bool) → in_bus_line n before ≡ false → first_from (bus_table n d) before (b ∷ s) ≡ out 0 d start (line ++ b ∷ s) (cut_from agrees (length before) line (b ∷ s))
    go true h = nothing_behind n before (b ∷ s) h
    go false h =
        ap (λ (k : Option LineKind). unless_found k (length before) (first_from (bus_table n false) (before ++ b ∷ []) s)) (behind_byte n false before b h)
        ∙ ap (line_fault EarlyBus) (omega (arith, p, ap length (z refl)))
        ∙ sym (ap (λ (t : Bool). cond t (line_fault EarlyBus (start + 0)) None) (ap (λ (l : List ℕ). nat_lt 0 (length (l ++ b ∷ s))) (z refl) ∙ none_lt (length s)))
bus_scan n begun (b ∷ s) (suc k) before line lines start a c p z =
    ap (λ (f : Option LineKind). unless_found f (length before) (first_from (bus_table n begun) (before ++ b ∷ []) s)) (bus_byte n begun before line lines b a (lt-ltb (length lines) n (omega (arith, c))))
    ∙ at_it (bus_scan n begun s) (byte_fault agrees line b)
  where
    place : ℕ
    place = length before

    F : List ℕ → Cut
    F next = cut_from agrees (place + 1) next s

    longer : length (before ++ b ∷ []) ≡ place + 1
    longer = length-append before (b ∷ [])

    behind : Scans n begun s → (e : Bool) → (b == 10) ≡ e → first_from (bus_table n begun) (before ++ b ∷ []) s ≡ out (suc k) begun start (line ++ b ∷ s) (after_byte e (line ++ b ∷ []) F)
    behind ih true h =
        ih k (before ++ b ∷ []) [] (lines ++ (line ++ b ∷ []) ∷ []) (start + length (line ++ b ∷ [])) (at_end before line lines b h a)
        (omega (arith, c, length-append lines ((line ++ b ∷ []) ∷ []))) (omega (arith, p, longer, length-append line (b ∷ []))) (λ e. refl)
        ∙ ap (λ (q : ℕ). out k begun (start + length (line ++ b ∷ [])) s (cut_from agrees q [] s)) longer
        ∙ sym (ap (λ (t : List ℕ). out (suc k) begun start t (with_line (line ++ b ∷ []) (F []))) (sym (append_assoc line (b ∷ []) s)) ∙ out_line k begun start (line ++ b ∷ []) s (F []))
    behind ih false h =
        ih (suc k) (before ++ b ∷ []) (line ++ b ∷ []) lines start (at_more before line lines b h a) c (omega (arith, p, longer, length-append line (b ∷ []))) (λ e. absurd (omega (arith, e)))
        ∙ ap (λ (q : ℕ). out (suc k) begun start ((line ++ b ∷ []) ++ s) (cut_from agrees q (line ++ b ∷ []) s)) longer
        ∙ ap (λ (t : List ℕ). out (suc k) begun start t (F (line ++ b ∷ []))) (append_assoc line (b ∷ []) s)

    at_it : Scans n begun s → (f : Option LineKind) → unless_found f place (first_from (bus_table n begun) (before ++ b ∷ []) s) ≡ out (suc k) begun start (line ++ b ∷ s) (at_byte f place b line F)
    at_it ih (Some kind) = sym (ap (λ (t : Bool). cond t (line_fault kind place) (cond (not begun && nat_lt 0 (length (line ++ b ∷ s))) (line_fault EarlyBus (start + 0)) None)) (none_lt k))
    at_it ih None = behind ih (b == 10) refl

-- the fault of the bus's lines is the table's
pub bus_fault-table : (n : ℕ) (begun : Bool) (s : List ℕ) → bus_fault n begun s ≡ first_in (bus_table n begun) s
bus_fault-table n begun s = go (nat_lt (length (bus_lines n s)) n) refl ∙ sym (bus_scan n begun s n [] [] [] 0 (record { line_is = refl; lines_are = refl }) (omega arith) refl (λ e. refl))
  where
    len : ℕ
    len = length (joined (bus_lines n s))

    go : (b : Bool) → nat_lt (length (bus_lines n s)) n ≡ b → cond b (bus_cut s).fault (early begun n s) ≡ cond b (bus_cut s).fault (cond (not begun && nat_lt 0 (length (drop len s))) (line_fault EarlyBus (0 + len)) None)
    go true h = refl
    go false h =
        ap (λ (t : List ℕ). cond (not begun && nat_lt 0 (length t)) (line_fault EarlyBus len) None) (if_all_is n s (all_or_fewer n s h))
        ∙ ap (λ (k : ℕ). cond (not begun && nat_lt 0 (length (drop len s))) (line_fault EarlyBus k) None) (omega arith)

-- ---- the client

client_byte : (before line : List ℕ) (lines : List (List ℕ)) (b : ℕ) → At before line lines → list_any is_begin lines ≡ false → kind_by client_table (0 ∷ before) b ≡ byte_fault (λ l. false) line b
client_byte before line lines b a h =
    ap (λ (w : Bool). by_rows (not w && is_too_long (open_line before) b) (not w && is_bad_byte (open_line before) b) false) (ap (list_any is_begin) a.lines_are ∙ h)
    ∙ ap (λ (l : List ℕ). by_rows (is_too_long l b) (is_bad_byte l b) false) a.line_is
    ∙ ap (by_rows (is_too_long line b) (is_bad_byte line b)) (sym (and-false (is_ending line b)))
    ∙ byte_rows (λ l. false) line b

-- after BEGIN nothing is a fault
nothing_after : (before s : List ℕ) → list_any is_begin (ended_lines before) ≡ true → first_from client_table (0 ∷ before) s ≡ None
nothing_after before [] h = refl
nothing_after before (b ∷ s) h =
    ap (λ (w : Bool). unless_found (by_rows (not w && is_too_long (open_line before) b) (not w && is_bad_byte (open_line before) b) false) (length (0 ∷ before)) (first_from client_table (0 ∷ before ++ b ∷ []) s)) h
    ∙ nothing_after (before ++ b ∷ []) s (ap (list_any is_begin) (ended_more [] before b) ∙ list_any-append is_begin (ended_lines before) (cond (b == 10) ((open_line before ++ b ∷ []) ∷ []) []) ∙ ap (λ (x : Bool). x || list_any is_begin (cond (b == 10) ((open_line before ++ b ∷ []) ∷ []) [])) h)

abbrev client_out : Cut → Option LineFault
client_out c = cond (list_any is_begin (through is_begin c.lines)) None c.fault

abbrev ClientScans : List ℕ → Type 0
ClientScans s = (before line : List ℕ) (lines : List (List ℕ)) → At before line lines → list_any is_begin lines ≡ false → first_from client_table (0 ∷ before) s ≡ client_out (cut_from (λ l. false) (length (0 ∷ before)) line s)

client_scan : (s : List ℕ) → ClientScans s
client_scan [] before line lines a h = refl
client_scan (b ∷ s) before line lines a h =
    ap (λ (f : Option LineKind). unless_found f place (first_from client_table (0 ∷ before ++ b ∷ []) s)) (client_byte before line lines b a h)
    ∙ at_it (client_scan s) (byte_fault (λ l. false) line b)
  where
    place : ℕ
    place = length (0 ∷ before)

    F : List ℕ → Cut
    F next = cut_from (λ l. false) (place + 1) next s

    longer : length (0 ∷ before ++ b ∷ []) ≡ place + 1
    longer = length-append (0 ∷ before) (b ∷ [])

    whole : List ℕ
    whole = line ++ b ∷ []

    no_more : list_any is_begin (lines ++ whole ∷ []) ≡ (is_begin whole || false)
    no_more = list_any-append is_begin lines (whole ∷ []) ∙ ap (λ (x : Bool). x || (is_begin whole || false)) h

    ended : ClientScans s → (b == 10) ≡ true → (d : Bool) → is_begin whole ≡ d → first_from client_table (0 ∷ before ++ b ∷ []) s ≡ cond (is_begin whole || list_any is_begin (cond d [] (through is_begin (F []).lines))) None (F []).fault
    ended ih e true k =
        nothing_after (before ++ b ∷ []) s (ap (list_any is_begin) (at_end before line lines b e a).lines_are ∙ no_more ∙ ap (λ (x : Bool). x || false) k)
        ∙ sym (ap (λ (x : Bool). cond (x || false) None (F []).fault) k)
    ended ih e false k =
        ih (before ++ b ∷ []) [] (lines ++ whole ∷ []) (at_end before line lines b e a) (no_more ∙ ap (λ (x : Bool). x || false) k)
        ∙ ap (λ (q : ℕ). client_out (cut_from (λ l. false) q [] s)) longer
        ∙ sym (ap (λ (x : Bool). cond (x || list_any is_begin (through is_begin (F []).lines)) None (F []).fault) k)

    behind : ClientScans s → (e : Bool) → (b == 10) ≡ e → first_from client_table (0 ∷ before ++ b ∷ []) s ≡ client_out (after_byte e whole F)
    behind ih true e = ended ih e (is_begin whole) refl
    behind ih false e = ih (before ++ b ∷ []) whole lines (at_more before line lines b e a) h ∙ ap (λ (q : ℕ). client_out (cut_from (λ l. false) q whole s)) longer

    at_it : ClientScans s → (f : Option LineKind) → unless_found f place (first_from client_table (0 ∷ before ++ b ∷ []) s) ≡ client_out (at_byte f place b line F)
    at_it ih (Some kind) = refl
    at_it ih None = behind ih (b == 10) refl

-- the fault of the client's lines is the table's
pub client_fault-table : (s : List ℕ) → client_fault s ≡ first_in client_table s
client_fault-table [] = refl
client_fault-table (b ∷ s) = go (b == 0) refl
  where
    cut_by : Bool → Cut
    cut_by e = cond e (with_line (b ∷ []) (cut_from (λ line. false) 1 [] s)) (record { lines = []; fault = line_fault NoNul 0 })

    go : (e : Bool) → (b == 0) ≡ e → client_out (cut_by e) ≡ unless_found (cond (not e) (Some NoNul) None) 0 (first_from client_table (b ∷ []) s)
    go true e =
        ap (λ (z : ℕ). client_out (with_line (z ∷ []) (cut_from (λ line. false) 1 [] s))) (eqb-true b 0 e)
        ∙ sym (ap (λ (z : ℕ). first_from client_table (z ∷ []) s) (eqb-true b 0 e) ∙ client_scan s [] [] [] (record { line_is = refl; lines_are = refl }) refl)
    go false e = refl

-- ---- what a table finds is the first faulty byte

-- after other bytes
record FirstBehind (rows : List Row) (pre stream : List ℕ) (f : LineFault) : Type 0 where
  before : List ℕ
  byte : ℕ
  behind : List ℕ
  parts : stream ≡ before ++ byte ∷ behind
  place : f.at ≡ length (pre ++ before)
  kind : kind_by rows (pre ++ before) byte ≡ Some f.kind
  earlier : (p q : List ℕ) (c : ℕ) → before ≡ p ++ c ∷ q → kind_by rows (pre ++ p) c ≡ None

first_behind : (rows : List Row) (s pre : List ℕ) (f : LineFault) → first_from rows pre s ≡ Some f → FirstBehind rows pre s f
first_behind rows [] pre f e = absurd cc
first_behind rows (b ∷ s) pre f e = go (kind_by rows pre b) refl e (first_behind rows s (pre ++ b ∷ []) f)
  where
    no_bytes : (p q : List ℕ) (c : ℕ) → [] ≡ p ++ c ∷ q → ⊥
    no_bytes [] q c e = absurd cc
    no_bytes (d ∷ p) q c e = absurd cc

    go : (k : Option LineKind) → kind_by rows pre b ≡ k → unless_found k (length pre) (first_from rows (pre ++ b ∷ []) s) ≡ Some f → (first_from rows (pre ++ b ∷ []) s ≡ Some f → FirstBehind rows (pre ++ b ∷ []) s f) → FirstBehind rows pre (b ∷ s) f
    go (Some kind) h e ih =
        let is : made kind ≡ f = same_Some (made kind) f e in
        record {
          before = [];
          byte = b;
          behind = s;
          parts = refl;
          place = sym (ap (λ (x : LineFault). x.at) is) ∙ ap length (sym (append-nil pre));
          kind = ap (λ (t : List ℕ). kind_by rows t b) (append-nil pre) ∙ h ∙ ap (λ (x : LineFault). some x.kind) is;
          earlier = λ p q c e. absurd (no_bytes p q c e);
        }
      where
        made : LineKind → LineFault
        made kind = record { kind = kind; at = length pre }
    go None h e ih =
        let r = ih e in
        record {
          before = b ∷ r.before;
          byte = r.byte;
          behind = r.behind;
          parts = ap (λ (t : List ℕ). b ∷ t) r.parts;
          place = r.place ∙ ap length (append_assoc pre (b ∷ []) r.before);
          kind = ap (λ (t : List ℕ). kind_by rows t r.byte) (sym (append_assoc pre (b ∷ []) r.before)) ∙ r.kind;
          earlier = earlier h r.before r.earlier;
        }
      where
        earlier : kind_by rows pre b ≡ None → (before : List ℕ) → ((p q : List ℕ) (c : ℕ) → before ≡ p ++ c ∷ q → kind_by rows ((pre ++ b ∷ []) ++ p) c ≡ None) →
            (p q : List ℕ) (c : ℕ) → b ∷ before ≡ p ++ c ∷ q → kind_by rows (pre ++ p) c ≡ None
        earlier h before k [] q c e =
            let same : b ≡ c = cc in
            ap (λ (t : List ℕ). kind_by rows t c) (append-nil pre) ∙ ap (kind_by rows pre) (sym same) ∙ h
        earlier h before k (d ∷ p) q c e =
            let same : b ≡ d = cc in
            let rest : before ≡ p ++ c ∷ q = cc in
            ap (λ (x : ℕ). kind_by rows (pre ++ x ∷ p) c) (sym same) ∙ ap (λ (t : List ℕ). kind_by rows t c) (sym (append_assoc pre (b ∷ []) p)) ∙ k p q c rest

pub first_in-is : (rows : List Row) (s : List ℕ) (f : LineFault) → first_in rows s ≡ Some f → IsFirst rows s f
first_in-is rows s f e =
    let r = first_behind rows s [] f e in
    record { before = r.before; byte = r.byte; behind = r.behind; parts = r.parts; place = r.place; kind = r.kind; earlier = r.earlier }

none_behind : (rows : List Row) (s pre : List ℕ) → first_from rows pre s ≡ None → (p q : List ℕ) (c : ℕ) → s ≡ p ++ c ∷ q → kind_by rows (pre ++ p) c ≡ None
none_behind rows [] pre e [] q c h = absurd cc
none_behind rows [] pre e (d ∷ p) q c h = absurd cc
none_behind rows (b ∷ s) pre e p q c h = go (kind_by rows pre b) refl e (none_behind rows s (pre ++ b ∷ [])) p h
  where
    go : (k : Option LineKind) → kind_by rows pre b ≡ k → unless_found k (length pre) (first_from rows (pre ++ b ∷ []) s) ≡ None →
        (first_from rows (pre ++ b ∷ []) s ≡ None → (p q : List ℕ) (c : ℕ) → s ≡ p ++ c ∷ q → kind_by rows ((pre ++ b ∷ []) ++ p) c ≡ None) →
        (p : List ℕ) → b ∷ s ≡ p ++ c ∷ q → kind_by rows (pre ++ p) c ≡ None
    go (Some kind) k e ih p h = absurd cc
    go None k e ih [] h =
        let same : b ≡ c = cc in
        ap (λ (t : List ℕ). kind_by rows t c) (append-nil pre) ∙ ap (kind_by rows pre) (sym same) ∙ k
    go None k e ih (d ∷ p) h =
        let same : b ≡ d = cc in
        let rest : s ≡ p ++ c ∷ q = cc in
        ap (λ (x : ℕ). kind_by rows (pre ++ x ∷ p) c) (sym same) ∙ ap (λ (t : List ℕ). kind_by rows t c) (sym (append_assoc pre (b ∷ []) p)) ∙ ih e p q c rest

-- if a table finds nothing, no byte has a kind
pub first_in-none : (rows : List Row) (s : List ℕ) → first_in rows s ≡ None → (p q : List ℕ) (c : ℕ) → s ≡ p ++ c ∷ q → kind_by rows p c ≡ None
first_in-none rows s e p q c h = none_behind rows s [] e p q c h

-- the first byte that has a kind is what a table finds
first_from-parts : (rows : List Row) (before pre : List ℕ) (byte : ℕ) (behind : List ℕ) (kind : LineKind) → kind_by rows (pre ++ before) byte ≡ Some kind
    → ((p q : List ℕ) (c : ℕ) → before ≡ p ++ c ∷ q → kind_by rows (pre ++ p) c ≡ None) → first_from rows pre (before ++ byte ∷ behind) ≡ line_fault kind (length (pre ++ before))
first_from-parts rows [] pre byte behind kind k earlier =
    ap (λ (f : Option LineKind). unless_found f (length pre) (first_from rows (pre ++ byte ∷ []) behind)) (ap (λ (t : List ℕ). kind_by rows t byte) (sym (append-nil pre)) ∙ k)
    ∙ ap (λ (t : List ℕ). line_fault kind (length t)) (sym (append-nil pre))
first_from-parts rows (b ∷ before) pre byte behind kind k earlier =
    let moved : (pre ++ b ∷ []) ++ before ≡ pre ++ b ∷ before = append_assoc pre (b ∷ []) before in
    ap (λ (f : Option LineKind). unless_found f (length pre) (first_from rows (pre ++ b ∷ []) (before ++ byte ∷ behind)))
    (ap (λ (t : List ℕ). kind_by rows t b) (sym (append-nil pre)) ∙ earlier [] before b refl)
    ∙ first_from-parts rows before (pre ++ b ∷ []) byte behind kind (ap (λ (t : List ℕ). kind_by rows t byte) moved ∙ k)
    (λ p q c e. ap (λ (t : List ℕ). kind_by rows t c) (append_assoc pre (b ∷ []) p) ∙ earlier (b ∷ p) q c (ap (λ (t : List ℕ). b ∷ t) e))
    ∙ ap (λ (t : List ℕ). line_fault kind (length t)) moved

pub first_in-only : (rows : List Row) (s : List ℕ) (f : LineFault) → IsFirst rows s f → first_in rows s ≡ Some f
first_in-only rows s f i =
    ap (first_in rows) i.parts
    ∙ first_from-parts rows i.before [] i.byte i.behind f.kind i.kind i.earlier
    ∙ ap (line_fault f.kind) (sym i.place)
