-- How a side's items and its fault change with more bytes.
use Rattle.std.proofs.Common.{ℕ, zero, suc, ◌≡◌, ◌-◌, Bool, true, false, cond, List, [], ◌∷◌, ◌++◌, length, take, map, Option, Some, None, refl, ap, ◌∙◌, sym, arith, append-nil, append_assoc, inl, inr}
use Rattle.std.specs.Prelude.{◌⊎◌, nat_lt}
use Rattle.std.specs.List.{list_any}
use Rattle.std.proofs.lemmas.List.{map-append}
use Rattle.std.proofs.lemmas.Option.{none-some, same_Some}
use Rattle.byte_lists.proofs.Options.{some}
use Rattle.dbus_header.specs.Message.{Message}
use Rattle.dbus_header.specs.Malformed.{fault as message_fault}
use Rattle.dbus_header.specs.Stream.{split, messages, rest, bad}
use Rattle.dbus_header.specs.declared.Malformed.{Malformed}
use Rattle.dbus_header.proofs.StreamLaws.{split-append}
use Rattle.dbus_header.proofs.FaultStays.{bad-stays}
use Rattle.sasl_watch.specs.Lines.{client_lines, has_begun, after_begin, asked, client_cut, client_fault, is_begin, bus_lines, after_lines, bus_fault}
use Rattle.sasl_watch.specs.declared.LineFault.{LineFault}
use Rattle.sasl_watch.proofs.LinesLaws.{Begins, client_lines-append}
use Rattle.sasl_watch.proofs.LinesGrow.{client_lines-stay, has_begun-stays, after_begin-append, client_fault-stays, bus_lines-append, bus_lines-stay, after_lines-append, fewer_then_none, all_or_fewer, bus_fault-stays, no_bus_fault, bus_quiet, asked-grows, asked-stays}
use Rattle.policy_view.specs.Past.{Item, Line, Msg}
use Rattle.policy_view.specs.History.{Event, Bytes, stream, whole_stream, longest_stream, taken_of, lines, content, found, raw, fault, messages_in, bytes_in, raw_in, fault_in, first_fault, fault_of, fault_of_line}
use Rattle.policy_view.specs.declared.Fault.{Fault}
use Rattle.policy_view.specs.declared.Mode.{Mode}
use Rattle.policy_view.specs.declared.Side.{Side}
use Rattle.policy_view.specs.declared.Side.TheVariants.{Client, Bus}

-- ---- what is said of a side's stream that grows

-- the items that a side's new bytes make, and the raw bytes among them, which no item follows
pub record Grown (mode : Mode) (side : Side) (events : List Event) (piece : List ℕ) : Type 0 where
  pub items : List Item
  pub bytes : List ℕ
  pub found_is : found mode side (Bytes side piece ∷ events) ≡ found mode side events ++ items
  pub raw_is : raw mode side (Bytes side piece ∷ events) ≡ raw mode side events ++ bytes
  pub in_order : (raw mode side events ≡ []) ⊎ (items ≡ [])

-- nothing is new on a side, whose fault is this
pub record Unmoved (mode : Mode) (side : Side) (one other : List Event) (f : Option Fault) : Type 0 where
  pub found_is : found mode side other ≡ found mode side one
  pub raw_is : raw mode side other ≡ raw mode side one
  pub fault_is : fault mode side other ≡ f

-- ---- a stream grows at its end

take_more : (n : ℕ) (w p : List ℕ) → take n (w ++ p) ≡ take n w ++ take (n - length (take n w)) p
take_more zero w p = refl
take_more (suc n) [] p =
    let k : suc n ≡ suc n - 0 = omega arith in
    ap (λ (j : ℕ). take j p) k
take_more (suc n) (b ∷ w) p =
    let k : n - length (take n w) ≡ suc n - suc (length (take n w)) = omega arith in
    ap (λ (t : List ℕ). b ∷ t) (take_more n w p ∙ ap (λ (j : ℕ). take n w ++ take j p) k)

pub stream_more : (side : Side) (events : List Event) (piece : List ℕ) → stream side (Bytes side piece ∷ events) ≡ stream side events ++ taken_of side events piece
unfolding stream taken_of
stream_more Client events piece = take_more longest_stream (whole_stream Client events) piece
stream_more Bus events piece = take_more longest_stream (whole_stream Bus events) piece

pub bus_stream : (events : List Event) (piece : List ℕ) → stream Bus (Bytes Client piece ∷ events) ≡ stream Bus events
unfolding stream
bus_stream events piece = refl

pub client_stream : (events : List Event) (piece : List ℕ) → stream Client (Bytes Bus piece ∷ events) ≡ stream Client events
unfolding stream
client_stream events piece = refl

-- ---- a side's lines, and what follows them

abbrev found_of : Side → Bool → List (List ℕ) → Option (List ℕ) → List Item
found_of side filter ls c = map (Line side) ls ++ map (Msg side) (messages_in filter c)

-- more bytes follow the lines, or there are more lines and nothing follows the lines before
data Grows (ls : List (List ℕ)) (c : Option (List ℕ)) (now : List (List ℕ)) (then_c : Option (List ℕ)) : Type 0 where
  behind : (b y : List ℕ) → now ≡ ls → c ≡ Some b → then_c ≡ Some (b ++ y) → Grows ls c now then_c
  before : Begins ls now → (c ≡ None) ⊎ (c ≡ Some []) → Grows ls c now then_c

-- nothing moves
data Same (ls : List (List ℕ)) (c : Option (List ℕ)) (now : List (List ℕ)) (then_c : Option (List ℕ)) : Type 0 where
  closed : now ≡ ls → then_c ≡ c → Same ls c now then_c
  opened : now ≡ ls → c ≡ None → then_c ≡ Some [] → Same ls c now then_c

record Items (side : Side) (filter : Bool) (ls : List (List ℕ)) (c : Option (List ℕ)) (now : List (List ℕ)) (then_c : Option (List ℕ)) : Type 0 where
  items : List Item
  bytes : List ℕ
  found_is : found_of side filter now then_c ≡ found_of side filter ls c ++ items
  raw_is : raw_in filter then_c ≡ raw_in filter c ++ bytes
  in_order : (raw_in filter c ≡ []) ⊎ (items ≡ [])

no_byte : (b : Bool) → cond {A = List ℕ} b [] [] ≡ []
no_byte true = refl
no_byte false = refl

-- if no bytes follow the lines
pub nothing_in : (filter : Bool) (c : Option (List ℕ)) → (c ≡ None) ⊎ (c ≡ Some []) → (messages_in filter c ≡ []) × (raw_in filter c ≡ [])
unfolding split
nothing_in filter c (inl e) = (ap (messages_in filter) e, ap (raw_in filter) e ∙ no_byte filter)
nothing_in filter c (inr e) = (ap (messages_in filter) e ∙ none filter, ap (raw_in filter) e ∙ no_byte filter)
  where
    none : (b : Bool) → messages_in b (some []) ≡ []
    none true = refl
    none false = refl

grown_items : (side : Side) (filter : Bool) (ls : List (List ℕ)) (c : Option (List ℕ)) (now : List (List ℕ)) (then_c : Option (List ℕ)) → Grows ls c now then_c → Items side filter ls c now then_c
grown_items side true ls c now then_c (behind b y same e k) =
    let ms = messages (rest b ++ y) in
    let grown : messages (b ++ y) ≡ messages b ++ ms = ap (λ (r : List Message × List ℕ). r.0) (split-append b y) in
    record {
      items = map (Msg side) ms;
      bytes = [];
      found_is = ap (λ (x : Option (List ℕ)). found_of side true now x) k ∙ ap (λ (x : List (List ℕ)). found_of side true x (some (b ++ y))) same
          ∙ ap (λ (x : List Message). map (Line side) ls ++ map (Msg side) x) grown
          ∙ ap (λ (x : List Item). map (Line side) ls ++ x) (map-append (Msg side) (messages b) ms)
          ∙ sym (append_assoc (map (Line side) ls) (map (Msg side) (messages b)) (map (Msg side) ms))
          ∙ ap (λ (x : Option (List ℕ)). found_of side true ls x ++ map (Msg side) ms) (sym e);
      raw_is = ap (raw_in true) k ∙ sym (ap (λ (x : Option (List ℕ)). raw_in true x ++ []) e);
      in_order = inl (ap (raw_in true) e);
    }
grown_items side false ls c now then_c (behind b y same e k) = record {
  items = [];
  bytes = y;
  found_is = ap (λ (x : Option (List ℕ)). found_of side false now x) k ∙ ap (λ (x : List (List ℕ)). map (Line side) x ++ []) same
      ∙ sym (append-nil (map (Line side) ls ++ [])) ∙ ap (λ (x : Option (List ℕ)). found_of side false ls x ++ []) (sym e);
  raw_is = ap (raw_in false) k ∙ sym (ap (λ (x : Option (List ℕ)). raw_in false x ++ y) e);
  in_order = inr refl;
}
grown_items side filter ls c now then_c (before (more, e) none) =
    let n = nothing_in filter c none in
    let ms = map (Msg side) (messages_in filter then_c) in
    record {
      items = map (Line side) more ++ ms;
      bytes = raw_in filter then_c;
      found_is = ap (λ (x : List (List ℕ)). map (Line side) x ++ ms) e
          ∙ ap (λ (x : List Item). x ++ ms) (map-append (Line side) ls more)
          ∙ append_assoc (map (Line side) ls) (map (Line side) more) ms
          ∙ ap (λ (x : List Item). x ++ (map (Line side) more ++ ms)) (sym (ap (λ (x : List Message). map (Line side) ls ++ map (Msg side) x) n.0 ∙ append-nil (map (Line side) ls)));
      raw_is = sym (ap (λ (x : List ℕ). x ++ raw_in filter then_c) n.1);
      in_order = inl n.1;
    }

same_items : (side : Side) (filter : Bool) (ls : List (List ℕ)) (c : Option (List ℕ)) (now : List (List ℕ)) (then_c : Option (List ℕ)) → Same ls c now then_c
    → (found_of side filter now then_c ≡ found_of side filter ls c) × (raw_in filter then_c ≡ raw_in filter c)
same_items side filter ls c now then_c (closed l k) = (rw (l, k) refl, ap (raw_in filter) k)
same_items side filter ls c now then_c (opened l e k) =
    let n = nothing_in filter then_c (inr k) in
    let o = nothing_in filter c (inl e) in
    (rw (l, n.0, o.0) refl, n.1 ∙ sym o.1)

-- ---- the client's side

abbrev behind_begin : List ℕ → Option (List ℕ)
behind_begin S = cond (has_begun S) (Some (after_begin S)) None

client_grows : (S y : List ℕ) → Grows (client_lines S) (behind_begin S) (client_lines (S ++ y)) (behind_begin (S ++ y))
client_grows S y = go (has_begun S) refl
  where
    go : (b : Bool) → has_begun S ≡ b → Grows (client_lines S) (behind_begin S) (client_lines (S ++ y)) (behind_begin (S ++ y))
    go true h = behind (after_begin S) y (client_lines-stay S y h) (ap (λ (b : Bool). cond b (some (after_begin S)) None) h)
        (ap (λ (b : Bool). cond b (some (after_begin (S ++ y))) None) (has_begun-stays S y h) ∙ ap some (after_begin-append S y h))
    go false h = before (client_lines-append S y) (inl (ap (λ (b : Bool). cond b (some (after_begin S)) None) h))

client_part : (auth : Bool) (S y : List ℕ) → Grows (cond auth (client_lines S) []) (cond auth (behind_begin S) (Some S)) (cond auth (client_lines (S ++ y)) []) (cond auth (behind_begin (S ++ y)) (Some (S ++ y)))
client_part true S y = client_grows S y
client_part false S y = behind S y refl refl refl

-- ---- the bus's side

abbrev behind_bus : ℕ → Bool → List ℕ → Option (List ℕ)
behind_bus n b S = cond b (Some (after_lines n S)) None

bus_grows : (n : ℕ) (b : Bool) (S y : List ℕ) → Grows (bus_lines n S) (behind_bus n b S) (bus_lines n (S ++ y)) (behind_bus n b (S ++ y))
bus_grows n false S y = before (bus_lines-append n S y) (inl refl)
bus_grows n true S y = go (nat_lt (length (bus_lines n S)) n) refl
  where
    go : (b : Bool) → nat_lt (length (bus_lines n S)) n ≡ b → Grows (bus_lines n S) (Some (after_lines n S)) (bus_lines n (S ++ y)) (Some (after_lines n (S ++ y)))
    go true h = before (bus_lines-append n S y) (inr (ap some (fewer_then_none n S h)))
    go false h =
        let all : length (bus_lines n S) ≡ n = all_or_fewer n S h in
        behind (after_lines n S) y (bus_lines-stay n S y all) refl (ap some (after_lines-append n S y all))

bus_part : (auth : Bool) (n : ℕ) (b : Bool) (S y : List ℕ) → Grows (cond auth (bus_lines n S) []) (cond auth (behind_bus n b S) (Some S)) (cond auth (bus_lines n (S ++ y)) []) (cond auth (behind_bus n b (S ++ y)) (Some (S ++ y)))
bus_part true n b S y = bus_grows n b S y
bus_part false n b S y = behind S y refl refl refl

-- with more bytes a side has the same items, and perhaps more
pub grows : (mode : Mode) (side : Side) (events : List Event) (piece : List ℕ) → Grown mode side events piece
unfolding found raw lines content
grows mode Client events piece =
    let e = stream_more Client events piece in
    let i = grown_items Client mode.filter _ _ _ _ (client_part mode.auth (stream Client events) (taken_of Client events piece)) in
    record { items = i.items; bytes = i.bytes; found_is = rw e i.found_is; raw_is = rw e i.raw_is; in_order = i.in_order }
grows mode Bus events piece =
    let e = stream_more Bus events piece in
    let i = grown_items Bus mode.filter _ _ _ _ (bus_part mode.auth (asked (stream Client events)) (has_begun (stream Client events)) (stream Bus events) (taken_of Bus events piece)) in
    record { items = i.items; bytes = i.bytes; found_is = rw (e, client_stream events piece) i.found_is; raw_is = rw (e, client_stream events piece) i.raw_is; in_order = i.in_order }

-- ---- a fault stays

-- what holds of a fault holds of it as it is seen
message_kept : (o p : Option Malformed) (g : Fault) → ((f : Malformed) → o ≡ Some f → p ≡ Some f) → fault_of o ≡ Some g → fault_of p ≡ Some g
message_kept None p g h e = absurd cc
message_kept (Some f) p g h e = ap fault_of (h f refl) ∙ e

record Kept (side : Side) (filter : Bool) (ls now : List (List ℕ)) (c then_c : Option (List ℕ)) (line_now : Option Fault) (g : Fault) : Type 0 where
  found_is : found_of side filter now then_c ≡ found_of side filter ls c
  raw_is : raw_in filter then_c ≡ raw_in filter c
  fault_is : first_fault line_now (fault_in filter then_c) ≡ Some g

message_stays : (side : Side) (filter : Bool) (ls now : List (List ℕ)) (b y : List ℕ) (line_now : Option Fault) (g : Fault) → now ≡ ls → line_now ≡ None → fault_in filter (Some b) ≡ Some g →
    Kept side filter ls now (Some b) (Some (b ++ y)) line_now g
message_stays side false ls now b y line_now g same none e = absurd cc
message_stays side true ls now b y line_now g same none e = record {
  found_is = kept (bad b) refl;
  raw_is = refl;
  fault_is = ap (λ (o : Option Fault). first_fault o (fault_of (bad (b ++ y)))) none ∙ message_kept (bad b) (bad (b ++ y)) g (λ f k. (bad-stays b y f k).1) e;
}
  where
    no_fault : None ≡ some g → ⊥
    no_fault e = absurd cc

    kept : (o : Option Malformed) → bad b ≡ o → found_of side true now (some (b ++ y)) ≡ found_of side true ls (some b)
    kept None h = absurd (no_fault (sym (ap fault_of h) ∙ e))
    kept (Some f) h = rw (same, (bad-stays b y f h).0) refl

line_stays : (side : Side) (filter : Bool) (ls now : List (List ℕ)) (c then_c : Option (List ℕ)) (line_now : Option Fault) (g : Fault) → Same ls c now then_c → line_now ≡ Some g → Kept side filter ls now c then_c line_now g
line_stays side filter ls now c then_c line_now g same e =
    let s = same_items side filter ls c now then_c same in
    record { found_is = s.0; raw_is = s.1; fault_is = ap (λ (o : Option Fault). first_fault o (fault_in filter then_c)) e }

client_stays : (filter : Bool) (S y : List ℕ) (g : Fault) → first_fault (fault_of_line (client_fault S)) (fault_in filter (behind_begin S)) ≡ Some g →
    Kept Client filter (client_lines S) (client_lines (S ++ y)) (behind_begin S) (behind_begin (S ++ y)) (fault_of_line (client_fault (S ++ y))) g
client_stays filter S y g e = go (client_fault S) refl
  where
    not_yet : (z : List ℕ) → has_begun z ≡ false → behind_begin z ≡ None
    not_yet z h = ap (λ (b : Bool). cond b (some (after_begin z)) None) h

    begun_by : List (List ℕ) → Bool
    begun_by ls = list_any is_begin ls

    by_begun : (b : Bool) → has_begun S ≡ b → fault_in filter (cond b (some (after_begin S)) None) ≡ Some g → Kept Client filter (client_lines S) (client_lines (S ++ y)) (behind_begin S) (behind_begin (S ++ y)) (fault_of_line (client_fault (S ++ y))) g
    by_begun false h e = absurd cc
    by_begun true h e =
        let c : behind_begin S ≡ Some (after_begin S) = ap (λ (b : Bool). cond b (some (after_begin S)) None) h in
        let then_c : behind_begin (S ++ y) ≡ Some (after_begin S ++ y) = ap (λ (b : Bool). cond b (some (after_begin (S ++ y))) None) (has_begun-stays S y h) ∙ ap some (after_begin-append S y h) in
        let none : fault_of_line (client_fault (S ++ y)) ≡ None = ap (λ (b : Bool). fault_of_line (cond b None (client_cut (S ++ y)).fault)) (has_begun-stays S y h) in
        let k = message_stays Client filter (client_lines S) (client_lines (S ++ y)) (after_begin S) y (fault_of_line (client_fault (S ++ y))) g (client_lines-stay S y h) none e in
        record { found_is = rw (c, then_c) k.found_is; raw_is = rw (c, then_c) k.raw_is; fault_is = rw then_c k.fault_is }

    go : (o : Option LineFault) → client_fault S ≡ o → Kept Client filter (client_lines S) (client_lines (S ++ y)) (behind_begin S) (behind_begin (S ++ y)) (fault_of_line (client_fault (S ++ y))) g
    go (Some f) h =
        let s = client_fault-stays S y f h in
        let still : has_begun (S ++ y) ≡ false = ap begun_by s.0 ∙ s.2 in
        let is : fault_of_line (client_fault S) ≡ Some g = found_line (client_fault S) f h e in
        line_stays Client filter _ _ _ _ _ g (closed s.0 (not_yet (S ++ y) still ∙ sym (not_yet S s.2))) (ap fault_of_line (s.1 ∙ sym h) ∙ is)
      where
        found_line : (o : Option LineFault) (f : LineFault) → o ≡ Some f → first_fault (fault_of_line o) (fault_in filter (behind_begin S)) ≡ Some g → fault_of_line o ≡ Some g
        found_line None f h e = absurd cc
        found_line (Some x) f h e = e
    go None h = by_begun (has_begun S) refl (sym (ap (λ (o : Option LineFault). first_fault (fault_of_line o) (fault_in filter (behind_begin S))) h) ∙ e)

-- no bytes have no fault
nothing_bad : (filter : Bool) → fault_in filter (some []) ≡ None
unfolding split message_fault
nothing_bad true = refl
nothing_bad false = refl

bus_stays : (filter : Bool) (n : ℕ) (b : Bool) (S y : List ℕ) (g : Fault) → first_fault (fault_of_line (bus_fault n b S)) (fault_in filter (behind_bus n b S)) ≡ Some g →
    Kept Bus filter (bus_lines n S) (bus_lines n (S ++ y)) (behind_bus n b S) (behind_bus n b (S ++ y)) (fault_of_line (bus_fault n b (S ++ y))) g
bus_stays filter n b S y g e = go (bus_fault n b S) refl e
  where
    same : (b : Bool) → (b ≡ true → (after_lines n (S ++ y) ≡ []) × (after_lines n S ≡ [])) → behind_bus n b (S ++ y) ≡ behind_bus n b S
    same false h = refl
    same true h = let e = h refl in ap some (e.0 ∙ sym e.1)

    of_messages : (b : Bool) → fault_in filter (behind_bus n b S) ≡ Some g → Kept Bus filter (bus_lines n S) (bus_lines n (S ++ y)) (behind_bus n b S) (behind_bus n b (S ++ y)) (fault_of_line (bus_fault n b (S ++ y))) g
    of_messages false e = absurd cc
    of_messages true e = by_count (nat_lt (length (bus_lines n S)) n) refl
      where
        none_some : None ≡ some g → ⊥
        none_some e = absurd cc

        by_count : (d : Bool) → nat_lt (length (bus_lines n S)) n ≡ d → Kept Bus filter (bus_lines n S) (bus_lines n (S ++ y)) (behind_bus n true S) (behind_bus n true (S ++ y)) (fault_of_line (bus_fault n true (S ++ y))) g
        by_count true h = absurd (none_some (sym (nothing_bad filter) ∙ sym (ap (λ (t : List ℕ). fault_in filter (some t)) (fewer_then_none n S h)) ∙ e))
        by_count false h =
            let all : length (bus_lines n S) ≡ n = all_or_fewer n S h in
            let stay : bus_lines n (S ++ y) ≡ bus_lines n S = bus_lines-stay n S y all in
            let c : after_lines n (S ++ y) ≡ after_lines n S ++ y = after_lines-append n S y all in
            let k = message_stays Bus filter (bus_lines n S) (bus_lines n (S ++ y)) (after_lines n S) y (fault_of_line (bus_fault n true (S ++ y))) g stay (ap fault_of_line (no_bus_fault n (S ++ y) (ap length stay ∙ all))) e in
            record { found_is = rw c k.found_is; raw_is = rw c k.raw_is; fault_is = rw c k.fault_is }

    go : (o : Option LineFault) → bus_fault n b S ≡ o → first_fault (fault_of_line o) (fault_in filter (behind_bus n b S)) ≡ Some g →
        Kept Bus filter (bus_lines n S) (bus_lines n (S ++ y)) (behind_bus n b S) (behind_bus n b (S ++ y)) (fault_of_line (bus_fault n b (S ++ y))) g
    go (Some f) h e =
        let s = bus_fault-stays n b S y f h in
        line_stays Bus filter _ _ _ _ _ g (closed s.lines (same b s.behind)) (ap fault_of_line s.fault ∙ e)
    go None h e = of_messages b e

plain_stays : (side : Side) (filter : Bool) (S y : List ℕ) (g : Fault) → fault_in filter (Some S) ≡ Some g → Kept side filter [] [] (Some S) (Some (S ++ y)) None g
plain_stays side filter S y g e = message_stays side filter [] [] S y None g refl refl e

client_part_stays : (auth filter : Bool) (S y : List ℕ) (g : Fault) → first_fault (cond auth (fault_of_line (client_fault S)) None) (fault_in filter (cond auth (behind_begin S) (Some S))) ≡ Some g →
    Kept Client filter (cond auth (client_lines S) []) (cond auth (client_lines (S ++ y)) []) (cond auth (behind_begin S) (Some S)) (cond auth (behind_begin (S ++ y)) (Some (S ++ y))) (cond auth (fault_of_line (client_fault (S ++ y))) None) g
client_part_stays true filter S y g e = client_stays filter S y g e
client_part_stays false filter S y g e = plain_stays Client filter S y g e

bus_part_stays : (auth filter : Bool) (n : ℕ) (b : Bool) (S y : List ℕ) (g : Fault) → first_fault (cond auth (fault_of_line (bus_fault n b S)) None) (fault_in filter (cond auth (behind_bus n b S) (Some S))) ≡ Some g →
    Kept Bus filter (cond auth (bus_lines n S) []) (cond auth (bus_lines n (S ++ y)) []) (cond auth (behind_bus n b S) (Some S)) (cond auth (behind_bus n b (S ++ y)) (Some (S ++ y))) (cond auth (fault_of_line (bus_fault n b (S ++ y))) None) g
bus_part_stays true filter n b S y g e = bus_stays filter n b S y g e
bus_part_stays false filter n b S y g e = plain_stays Bus filter S y g e

-- a fault stays where it is, and nothing follows it
pub stays : (mode : Mode) (side : Side) (events : List Event) (piece : List ℕ) (f : Fault) → fault mode side events ≡ Some f → Unmoved mode side events (Bytes side piece ∷ events) (Some f)
unfolding found raw lines content fault
stays mode Client events piece f h =
    let e = stream_more Client events piece in
    let k = client_part_stays mode.auth mode.filter (stream Client events) (taken_of Client events piece) f h in
    record { found_is = rw e k.found_is; raw_is = rw e k.raw_is; fault_is = rw e k.fault_is }
stays mode Bus events piece f h =
    let e = stream_more Bus events piece in
    let k = bus_part_stays mode.auth mode.filter (asked (stream Client events)) (has_begun (stream Client events)) (stream Bus events) (taken_of Bus events piece) f h in
    record { found_is = rw (e, client_stream events piece) k.found_is; raw_is = rw (e, client_stream events piece) k.raw_is; fault_is = rw (e, client_stream events piece) k.fault_is }

-- ---- the client's bytes and the bus's side

record Quieted (filter : Bool) (ls now : List (List ℕ)) (c then_c : Option (List ℕ)) (line_now : Option Fault) : Type 0 where
  found_is : found_of Bus filter now then_c ≡ found_of Bus filter ls c
  raw_is : raw_in filter then_c ≡ raw_in filter c
  fault_is : first_fault line_now (fault_in filter then_c) ≡ None

no_line_fault : (o : Option LineFault) (later : Option Fault) → first_fault (fault_of_line o) later ≡ None → o ≡ None
no_line_fault None later e = refl
no_line_fault (Some f) later e = absurd cc

-- the bus's stream S, while the client's goes on from C to C ++ y
bus_apart : (filter : Bool) (C y S : List ℕ) → first_fault (fault_of_line (bus_fault (asked C) (has_begun C) S)) (fault_in filter (behind_bus (asked C) (has_begun C) S)) ≡ None →
    Quieted filter (bus_lines (asked C) S) (bus_lines (asked (C ++ y)) S) (behind_bus (asked C) (has_begun C) S) (behind_bus (asked (C ++ y)) (has_begun (C ++ y)) S) (fault_of_line (bus_fault (asked (C ++ y)) (has_begun (C ++ y)) S))
bus_apart filter C y S e = go (has_begun C) refl
  where
    now : (b : Bool) → has_begun (C ++ y) ≡ b → bus_fault (asked C) false S ≡ None →
        Quieted filter (bus_lines (asked C) S) (bus_lines (asked (C ++ y)) S) (behind_bus (asked C) false S) (behind_bus (asked (C ++ y)) b S) (fault_of_line (bus_fault (asked (C ++ y)) b S))
    now b h n =
        let q = bus_quiet (asked C) (asked (C ++ y)) S (asked-grows C y) n in
        let s = same_items Bus filter (bus_lines (asked C) S) None (bus_lines (asked (C ++ y)) S) (behind_bus (asked (C ++ y)) b S) (same b q.lines q.behind) in
        record { found_is = s.0; raw_is = s.1; fault_is = ap (λ (o : Option LineFault). first_fault (fault_of_line o) (fault_in filter (behind_bus (asked (C ++ y)) b S))) (q.fault b) ∙ none b q.behind }
      where
        same : (b : Bool) → bus_lines (asked (C ++ y)) S ≡ bus_lines (asked C) S → after_lines (asked (C ++ y)) S ≡ [] → Same (bus_lines (asked C) S) None (bus_lines (asked (C ++ y)) S) (behind_bus (asked (C ++ y)) b S)
        same false l r = closed l refl
        same true l r = opened l refl (ap some r)

        none : (b : Bool) → after_lines (asked (C ++ y)) S ≡ [] → fault_in filter (behind_bus (asked (C ++ y)) b S) ≡ None
        none false r = refl
        none true r = ap (λ (t : List ℕ). fault_in filter (some t)) r ∙ nothing_bad filter

    go : (b : Bool) → has_begun C ≡ b →
        Quieted filter (bus_lines (asked C) S) (bus_lines (asked (C ++ y)) S) (behind_bus (asked C) (has_begun C) S) (behind_bus (asked (C ++ y)) (has_begun (C ++ y)) S) (fault_of_line (bus_fault (asked (C ++ y)) (has_begun (C ++ y)) S))
    go true h =
        let same : asked (C ++ y) ≡ asked C = asked-stays C y h in
        let seen : has_begun (C ++ y) ≡ has_begun C = has_begun-stays C y h ∙ sym h in
        rw (same, seen) (record { found_is = refl; raw_is = refl; fault_is = e })
    go false h =
        let fault_none : bus_fault (asked C) (has_begun C) S ≡ None = no_line_fault (bus_fault (asked C) (has_begun C) S) _ e in
        let q = now (has_begun (C ++ y)) refl (ap (λ (b : Bool). bus_fault (asked C) b S) (sym h) ∙ fault_none) in
        record { found_is = q.found_is ∙ ap (λ (b : Bool). found_of Bus filter (bus_lines (asked C) S) (behind_bus (asked C) b S)) (sym h); raw_is = q.raw_is ∙ ap (λ (b : Bool). raw_in filter (behind_bus (asked C) b S)) (sym h); fault_is = q.fault_is }

bus_part_apart : (auth filter : Bool) (C y S : List ℕ) → first_fault (cond auth (fault_of_line (bus_fault (asked C) (has_begun C) S)) None) (fault_in filter (cond auth (behind_bus (asked C) (has_begun C) S) (Some S))) ≡ None →
    Quieted filter (cond auth (bus_lines (asked C) S) []) (cond auth (bus_lines (asked (C ++ y)) S) []) (cond auth (behind_bus (asked C) (has_begun C) S) (Some S)) (cond auth (behind_bus (asked (C ++ y)) (has_begun (C ++ y)) S) (Some S)) (cond auth (fault_of_line (bus_fault (asked (C ++ y)) (has_begun (C ++ y)) S)) None)
bus_part_apart true filter C y S e = bus_apart filter C y S e
bus_part_apart false filter C y S e = record { found_is = refl; raw_is = refl; fault_is = e }

-- while the bus's stream has no fault, what the client sends finds nothing new in what the bus sent
pub apart : (mode : Mode) (events : List Event) (piece : List ℕ) → fault mode Bus events ≡ None → Unmoved mode Bus events (Bytes Client piece ∷ events) None
unfolding found raw lines content fault
apart mode events piece h =
    let e = stream_more Client events piece in
    let q = bus_part_apart mode.auth mode.filter (stream Client events) (taken_of Client events piece) (stream Bus events) h in
    record { found_is = rw (e, bus_stream events piece) q.found_is; raw_is = rw (e, bus_stream events piece) q.raw_is; fault_is = rw (e, bus_stream events piece) q.fault_is }

-- and what the bus sends never moves the client's side
pub bus_apart_client : (mode : Mode) (events : List Event) (piece : List ℕ) → Unmoved mode Client events (Bytes Bus piece ∷ events) (fault mode Client events)
unfolding found raw lines content fault
bus_apart_client mode events piece = record { found_is = rw (client_stream events piece) refl; raw_is = rw (client_stream events piece) refl; fault_is = rw (client_stream events piece) refl }

-- ---- what both streams give, by the bytes of both

pub lines_by : (mode : Mode) (side : Side) (one two : List Event) → stream Client one ≡ stream Client two → stream Bus one ≡ stream Bus two → lines mode side one ≡ lines mode side two
unfolding lines
lines_by mode Client one two c b = rw c refl
lines_by mode Bus one two c b = rw (c, b) refl

pub content_by : (mode : Mode) (side : Side) (one two : List Event) → stream Client one ≡ stream Client two → stream Bus one ≡ stream Bus two → content mode side one ≡ content mode side two
unfolding content
content_by mode Client one two c b = rw c refl
content_by mode Bus one two c b = rw (c, b) refl

pub found_by : (mode : Mode) (side : Side) (one two : List Event) → stream Client one ≡ stream Client two → stream Bus one ≡ stream Bus two → found mode side one ≡ found mode side two
unfolding found
found_by mode side one two c b = rw (lines_by mode side one two c b, content_by mode side one two c b) refl

pub raw_by : (mode : Mode) (side : Side) (one two : List Event) → stream Client one ≡ stream Client two → stream Bus one ≡ stream Bus two → raw mode side one ≡ raw mode side two
unfolding raw
raw_by mode side one two c b = ap (raw_in mode.filter) (content_by mode side one two c b)

pub fault_by : (mode : Mode) (side : Side) (one two : List Event) → stream Client one ≡ stream Client two → stream Bus one ≡ stream Bus two → fault mode side one ≡ fault mode side two
unfolding fault content
fault_by mode Client one two c b = rw c refl
fault_by mode Bus one two c b = rw (c, b) refl

-- the client's side doesn't depend on the bus's bytes
pub client_by : (mode : Mode) (one two : List Event) → stream Client one ≡ stream Client two → (lines mode Client one ≡ lines mode Client two) × (content mode Client one ≡ content mode Client two) × (fault mode Client one ≡ fault mode Client two)
unfolding lines content fault
client_by mode one two c = (rw c refl, rw c refl, rw c refl)

-- ---- bytes after the lines

-- more bytes after the lines, all of which were given
pub record More (now : List (List ℕ)) (ls : List (List ℕ)) (then_c : Option (List ℕ)) (b y : List ℕ) : Type 0 where
  pub content_is : then_c ≡ Some (b ++ y)
  pub lines_is : now ≡ ls

client_more : (auth : Bool) (S y b : List ℕ) → cond auth (behind_begin S) (Some S) ≡ Some b → More (cond auth (client_lines (S ++ y)) []) (cond auth (client_lines S) []) (cond auth (behind_begin (S ++ y)) (Some (S ++ y))) b y
client_more false S y b e = record { content_is = ap (λ (t : List ℕ). some (t ++ y)) (same_Some S b e); lines_is = refl }
client_more true S y b e = go (has_begun S) refl e
  where
    go : (d : Bool) → has_begun S ≡ d → cond d (some (after_begin S)) None ≡ some b → More (client_lines (S ++ y)) (client_lines S) (behind_begin (S ++ y)) b y
    go false h e = absurd (none-some b e)
    go true h e = record {
      content_is = ap (λ (d : Bool). cond d (some (after_begin (S ++ y))) None) (has_begun-stays S y h) ∙ ap some (after_begin-append S y h ∙ ap (λ (t : List ℕ). t ++ y) (same_Some (after_begin S) b e));
      lines_is = client_lines-stay S y h;
    }

bus_more : (auth : Bool) (n : ℕ) (begun : Bool) (S y b : List ℕ) → cond auth (behind_bus n begun S) (Some S) ≡ Some b → (auth ≡ true → length (cond auth (bus_lines n S) []) ≡ n)
    → More (cond auth (bus_lines n (S ++ y)) []) (cond auth (bus_lines n S) []) (cond auth (behind_bus n begun (S ++ y)) (Some (S ++ y))) b y
bus_more false n begun S y b e all = record { content_is = ap (λ (t : List ℕ). some (t ++ y)) (same_Some S b e); lines_is = refl }
bus_more true n false S y b e all = absurd (none-some b e)
bus_more true n true S y b e all = record {
  content_is = ap some (after_lines-append n S y (all refl) ∙ ap (λ (t : List ℕ). t ++ y) (same_Some (after_lines n S) b e));
  lines_is = bus_lines-stay n S y (all refl);
}

-- a piece follows a side's lines, all of which were given
pub content_more : (mode : Mode) (side : Side) (events : List Event) (piece b : List ℕ) → content mode side events ≡ Some b
    → (side ≡ Bus → mode.auth ≡ true → length (lines mode Bus events) ≡ asked (stream Client events))
    → More (lines mode side (Bytes side piece ∷ events)) (lines mode side events) (content mode side (Bytes side piece ∷ events)) b (taken_of side events piece)
unfolding lines content
content_more mode Client events piece b e all =
    let more = client_more mode.auth (stream Client events) (taken_of Client events piece) b e in
    let is = stream_more Client events piece in
    record { content_is = rw is more.content_is; lines_is = rw is more.lines_is }
content_more mode Bus events piece b e all =
    let more = bus_more mode.auth (asked (stream Client events)) (has_begun (stream Client events)) (stream Bus events) (taken_of Bus events piece) b e (all refl) in
    let is = stream_more Bus events piece in
    record { content_is = rw (is, client_stream events piece) more.content_is; lines_is = rw (is, client_stream events piece) more.lines_is }

-- ---- the bus's side, while the client's bytes come

-- its lines are the same; what follows them is the same too, or nothing follows them
pub record BusKept (mode : Mode) (one other : List Event) : Type 0 where
  pub lines_is : lines mode Bus other ≡ lines mode Bus one
  pub quiet : bytes_in (content mode Bus one) ≡ [] → bytes_in (content mode Bus other) ≡ []
  pub content_is : (b : List ℕ) → content mode Bus one ≡ Some b → content mode Bus other ≡ Some b
  pub asked_is : (b : List ℕ) → mode.auth ≡ true → content mode Bus one ≡ Some b → asked (stream Client other) ≡ asked (stream Client one)

record KeptBy (auth : Bool) (C C' S : List ℕ) : Type 0 where
  lines_is : cond auth (bus_lines (asked C') S) [] ≡ cond auth (bus_lines (asked C) S) []
  quiet : bytes_in (cond auth (behind_bus (asked C) (has_begun C) S) (Some S)) ≡ [] → bytes_in (cond auth (behind_bus (asked C') (has_begun C') S) (Some S)) ≡ []
  content_is : (b : List ℕ) → cond auth (behind_bus (asked C) (has_begun C) S) (Some S) ≡ Some b → cond auth (behind_bus (asked C') (has_begun C') S) (Some S) ≡ Some b
  asked_is : (b : List ℕ) → auth ≡ true → cond auth (behind_bus (asked C) (has_begun C) S) (Some S) ≡ Some b → asked C' ≡ asked C

kept_by : (auth filter : Bool) (C y S : List ℕ) → first_fault (cond auth (fault_of_line (bus_fault (asked C) (has_begun C) S)) None) (fault_in filter (cond auth (behind_bus (asked C) (has_begun C) S) (Some S))) ≡ None → KeptBy auth C (C ++ y) S
kept_by false filter C y S e = record { lines_is = refl; quiet = λ q. q; content_is = λ b q. q; asked_is = λ b a q. absurd cc }
kept_by true filter C y S e = go (has_begun C) refl
  where
    go : (b : Bool) → has_begun C ≡ b → KeptBy true C (C ++ y) S
    go true h =
        let same : asked (C ++ y) ≡ asked C = asked-stays C y h in
        let seen : has_begun (C ++ y) ≡ has_begun C = has_begun-stays C y h ∙ sym h in
        record {
          lines_is = rw same refl;
          quiet = λ q. rw (same, seen) q;
          content_is = λ b q. rw (same, seen) q;
          asked_is = λ b a q. same;
        }
    go false h =
        let fault_none : bus_fault (asked C) (has_begun C) S ≡ None = no_line_fault (bus_fault (asked C) (has_begun C) S) _ e in
        let q = bus_quiet (asked C) (asked (C ++ y)) S (asked-grows C y) (ap (λ (b : Bool). bus_fault (asked C) b S) (sym h) ∙ fault_none) in
        let none : behind_bus (asked C) (has_begun C) S ≡ None = ap (λ (b : Bool). behind_bus (asked C) b S) h in
        record {
          lines_is = q.lines;
          quiet = λ k. nothing_behind (has_begun (C ++ y)) q.behind;
          content_is = λ b k. absurd (none-some b (sym none ∙ k));
          asked_is = λ b a k. absurd (none-some b (sym none ∙ k));
        }
      where
        nothing_behind : (b : Bool) → after_lines (asked (C ++ y)) S ≡ [] → bytes_in (behind_bus (asked (C ++ y)) b S) ≡ []
        nothing_behind false r = refl
        nothing_behind true r = r

pub bus_kept : (mode : Mode) (events : List Event) (piece : List ℕ) → fault mode Bus events ≡ None → BusKept mode events (Bytes Client piece ∷ events)
unfolding lines content fault
bus_kept mode events piece h =
    let e = stream_more Client events piece in
    let k = kept_by mode.auth mode.filter (stream Client events) (taken_of Client events piece) (stream Bus events) h in
    record {
      lines_is = rw (e, bus_stream events piece) k.lines_is;
      quiet = rw (e, bus_stream events piece) k.quiet;
      content_is = rw (e, bus_stream events piece) k.content_is;
      asked_is = rw e k.asked_is;
    }
