-- What was given of a side's stream agrees with all that was pushed, after each push and each answer.
use Rattle.std.proofs.Common.{◌≡◌, ℕ, ◌+◌, ◌-◌, ◌≤◌, ◌<◌, Bool, true, false, cond, List, [], ◌∷◌, ◌++◌, length, take, drop, Option, Some, None, refl, sym, ap, ap₂, subst, ◌∙◌, append_assoc, append-nil, arith, inl, inr}
use Rattle.std.specs.Prelude.{◌||◌, ◌==◌, nat_lt}
use Rattle.std.specs.List.{list_any}
use Rattle.std.proofs.lemmas.List.{length-append, take_all, drop_at}
use Rattle.std.proofs.lemmas.List.Folds.{list_any-append}
use Rattle.std.proofs.lemmas.Grind.{flat_map-append}
use Rattle.std.proofs.lemmas.Bool.{lt-ltb, le-ltb}
use Rattle.std.proofs.lemmas.Option.{none-some, same_Some}
use Rattle.byte_lists.proofs.Options.{some}
use Rattle.sasl_watch.specs.declared.LineKind.TheVariants.{NoNul, EarlyBus}
use Rattle.sasl_watch.specs.declared.LineFault.{LineFault}
use Rattle.sasl_watch.specs.declared.NextLine.{NextLine}
use Rattle.sasl_watch.specs.declared.NextLine.TheVariants.{Nul, Line, Begin, Done, Incomplete, Bad}
use Rattle.sasl_watch.specs.Lines.{Cut, with_line, cut_from, joined, through, is_begin, agrees, client_cut, client_lines, has_begun, asked, client_fault, bus_cut, bus_lines, after_lines, bus_fault, line_fault}
use Rattle.sasl_watch.specs.Watching.{Watch, at_start, client_ahead, bus_ahead, Takes, Waits, TellsAgain, Tells, TellsEarly, WaitsForBegin, Ends, ClientGives, BusGives}
use Rattle.sasl_watch.specs.Following.{behind, only_fault, ClientFollows, ClientEnds, ClientWaits, ClientFails, ClientTells, IsTold, BusFollows, BusEnds, BusWaits, BusFails, BusTells, BusFault}
use Rattle.sasl_watch.proofs.LinesGrow.{cut-stays, client_cut-stays, if_all_is, fewer_then_none, no_bus_fault, early}
use Rattle.sasl_watch.proofs.Givens.{cut-given, client-given}

not_told : (o : Option LineFault) (f : LineFault) → o ≡ None → o ≡ Some f → ⊥
not_told o f a b = none-some f (sym a ∙ b)

abbrev no_fault : Option LineFault
no_fault = None

-- ---- lines, one more

joined-more : (given : List (List ℕ)) (line : List ℕ) → joined (given ++ line ∷ []) ≡ joined given ++ line
joined-more given line = flat_map-append (λ l. l) given (line ∷ []) ∙ ap (λ (t : List ℕ). joined given ++ t) (append-nil line)

length-more : (given : List (List ℕ)) (line : List ℕ) → length (joined (given ++ line ∷ [])) ≡ length (joined given) + length line
length-more given line = ap length (joined-more given line) ∙ length-append (joined given) line

parts-more : (pushed : List ℕ) (given : List (List ℕ)) (line old new : List ℕ) → pushed ≡ joined given ++ old → old ≡ line ++ new → pushed ≡ joined (given ++ line ∷ []) ++ new
parts-more pushed given line old new p q =
    p
    ∙ ap (λ (t : List ℕ). joined given ++ t) q
    ∙ sym (append_assoc (joined given) line new)
    ∙ ap (λ (t : List ℕ). t ++ new) (sym (joined-more given line))

behind-more : (given : List (List ℕ)) (line : List ℕ) (c : Cut) → behind given (with_line line c) ≡ behind (given ++ line ∷ []) c
behind-more given line c = ap (λ (ls : List (List ℕ)). made ls c) (sym (append_assoc given (line ∷ []) c.lines))
  where
    made : List (List ℕ) → Cut → Cut
    made ls c = record { lines = ls; fault = c.fault }

any-more : (test : List ℕ → Bool) (given : List (List ℕ)) (line : List ℕ) → list_any test given ≡ false → list_any test (given ++ line ∷ []) ≡ (test line || false)
any-more test given line h = list_any-append test given (line ∷ []) ∙ ap (λ (b : Bool). b || (test line || false)) h

or_false : (b c : Bool) → b ≡ c → (b || false) ≡ c
or_false true c e = e
or_false false c e = e

-- ---- lines up to one that passes

through-given : (test : List ℕ → Bool) (given more : List (List ℕ)) → list_any test given ≡ false → through test (given ++ more) ≡ given ++ through test more
through-given test [] more h = refl
through-given test (line ∷ given) more h = go (test line) refl h (through-given test given more)
  where
    go : (b : Bool) → test line ≡ b → (b || list_any test given) ≡ false → (list_any test given ≡ false → through test (given ++ more) ≡ given ++ through test more)
        → line ∷ cond (test line) [] (through test (given ++ more)) ≡ line ∷ (given ++ through test more)
    go true k h ih = absurd cc
    go false k h ih = ap (λ (b : Bool). line ∷ cond b [] (through test (given ++ more))) k ∙ ap (λ (ls : List (List ℕ)). line ∷ ls) (ih h)

-- ---- the client

pub client-starts : ClientFollows [] [] at_start
client-starts = record { parts = refl; place = refl; unbegun = refl; cut = refl; told = λ f e. absurd (none-some f e) }

ahead-stays : (w : Watch) (x : List ℕ) (f : LineFault) → client_ahead w ≡ only_fault f → client_ahead (record w { left = w.left ++ x }) ≡ only_fault f
ahead-stays w x f e = go (w.place == 0) e
  where
    go : (b : Bool) → cond b (client_cut w.left) (cut_from (λ line. false) w.place [] w.left) ≡ only_fault f
        → cond b (client_cut (w.left ++ x)) (cut_from (λ line. false) w.place [] (w.left ++ x)) ≡ only_fault f
    go true e = client_cut-stays w.left x f (ap (λ (c : Cut). c.fault) e) ∙ e
    go false e = cut-stays (λ line. false) w.left x w.place [] f (ap (λ (c : Cut). c.fault) e) ∙ e

pub client-pushed : (pushed : List ℕ) (given : List (List ℕ)) (w : Watch) (piece : List ℕ) → ClientFollows pushed given w → ClientFollows (pushed ++ piece) given (record w { left = w.left ++ piece })
client-pushed pushed given w piece s =
    let parts : pushed ++ piece ≡ joined given ++ (w.left ++ piece) = ap (λ (t : List ℕ). t ++ piece) s.parts ∙ append_assoc (joined given) w.left piece in
    record {
      parts = parts;
      place = s.place;
      unbegun = s.unbegun;
      cut =
          ap client_cut parts
          ∙ client-given given w.left (client_ahead w).lines (ap (λ (t : List ℕ). (client_cut t).lines) (sym s.parts) ∙ ap (λ (c : Cut). c.lines) s.cut) (w.left ++ piece) w.bad
          ∙ ap (λ (n : ℕ). behind given (client_ahead (record { place = n; left = w.left ++ piece; bad = w.bad }))) (sym s.place);
      told = λ f e. ahead-stays w piece f (s.told f e);
    }

module _ (pushed : List ℕ) (given : List (List ℕ)) (old : Watch) (s : ClientFollows pushed given old) where
  client-stays : (new : Watch) → new ≡ old → ClientFollows pushed given new
  client-stays new e = subst (ClientFollows pushed given) (sym e) s

  client-takes : (line : List ℕ) (new : Watch) → is_begin line ≡ false → Takes client_ahead old line new → ClientFollows pushed (given ++ line ∷ []) new
  client-takes line new h t = record {
    parts = parts-more pushed given line old.left new.left s.parts t.parts;
    place = ap (λ (w : Watch). w.place) t.is ∙ ap (λ (n : ℕ). n + length line) s.place ∙ sym (length-more given line);
    unbegun = any-more is_begin given line s.unbegun ∙ or_false (is_begin line) false h;
    cut = s.cut ∙ ap (behind given) t.cut ∙ behind-more given line (client_ahead new);
    told = λ f e. absurd (not_told new.bad f (ap (λ (w : Watch). w.bad) t.is) e);
  }

  -- the lines, if what is left has these
  client-lines : (c : Cut) → client_ahead old ≡ c → client_lines pushed ≡ given ++ through is_begin c.lines
  client-lines c e = ap (λ (c : Cut). through is_begin c.lines) (s.cut ∙ ap (behind given) e) ∙ through-given is_begin given c.lines s.unbegun

  module _ (f : Option LineFault) (ahead : client_ahead old ≡ record { lines = []; fault = f }) where
    all-lines : client_lines pushed ≡ given
    all-lines = client-lines (record { lines = []; fault = f }) ahead ∙ append-nil given

    still-unbegun : has_begun pushed ≡ false
    still-unbegun = ap (list_any is_begin) all-lines ∙ s.unbegun

    the-fault : client_fault pushed ≡ f
    the-fault = ap (λ (b : Bool). cond b None (client_cut pushed).fault) still-unbegun ∙ ap (λ (c : Cut). c.fault) (s.cut ∙ ap (behind given) ahead)

    all-asked : asked pushed ≡ length given - 1
    all-asked = ap₂ (λ (ls : List (List ℕ)) (b : Bool). length ls - 1 - cond b 1 0) all-lines still-unbegun ∙ less (length given - 1)
      where
        less : (n : ℕ) → n - 0 ≡ n
        less n = omega arith

  client-waits : (new : Watch) → Waits client_ahead old new → ClientWaits pushed given new
  client-waits new w = record {
    follows = client-stays new w.same;
    lines = all-lines None w.cut;
    unbegun = still-unbegun None w.cut;
    asked = all-asked None w.cut;
    sound = the-fault None w.cut;
  }

  client-fails : (f : LineFault) (new : Watch) → client_ahead old ≡ only_fault f → ClientFollows pushed given new → new.bad ≡ Some f → ClientFails pushed given f new
  client-fails f new cut follows told = record {
    follows = follows;
    lines = all-lines (Some f) cut;
    unbegun = still-unbegun (Some f) cut;
    fault = the-fault (Some f) cut;
    told = told;
  }

  client-tells : (f : LineFault) (new : Watch) → Tells client_ahead old f new → ClientFails pushed given f new
  client-tells f new t =
      let told : ClientFollows pushed given (record old { bad = Some f }) = record {
        parts = s.parts;
        place = s.place;
        unbegun = s.unbegun;
        cut = s.cut;
        told = λ g e. t.cut ∙ ap only_fault (same_Some f g e);
      } in
      client-fails f new t.cut (subst (ClientFollows pushed given) (sym t.is) told) (ap (λ (w : Watch). w.bad) t.is)

  client-ends : (line : List ℕ) (new : Watch) → is_begin line ≡ true → Takes client_ahead old line new → ClientEnds pushed given line new
  client-ends line new h t =
      let one : through is_begin (line ∷ (client_ahead new).lines) ≡ line ∷ [] = ap (λ (b : Bool). line ∷ cond b [] (through is_begin (client_ahead new).lines)) h in
      let lines : client_lines pushed ≡ given ++ line ∷ [] = client-lines (with_line line (client_ahead new)) t.cut ∙ ap (λ (ls : List (List ℕ)). given ++ ls) one in
      let begun : has_begun pushed ≡ true = ap (list_any is_begin) lines ∙ any-more is_begin given line s.unbegun ∙ or_false (is_begin line) true h in
      record {
        lines = lines;
        begun = begun;
        asked = ap₂ (λ (ls : List (List ℕ)) (b : Bool). length ls - 1 - cond b 1 0) lines begun ∙ less (length given) (length (given ++ line ∷ [])) (length-append given (line ∷ []));
        sound = ap (λ (b : Bool). cond b None (client_cut pushed).fault) begun;
        left =
            ap₂ (λ (ls : List (List ℕ)) (b : Bool). cond b (drop (length (joined ls)) pushed) []) lines begun
            ∙ ap (drop (length (joined (given ++ line ∷ [])))) (parts-more pushed given line old.left new.left s.parts t.parts)
            ∙ drop_at (joined (given ++ line ∷ [])) new.left (length (joined (given ++ line ∷ []))) refl;
      }
    where
      less : (n m : ℕ) → m ≡ n + 1 → m - 1 - 1 ≡ n - 1
      less n m e = omega arith

  no-lines : old.place ≡ 0 → given ≡ []
  no-lines e = go given s.cut (sym s.place ∙ e)
    where
      no_empty : (t : List ℕ) (others : List (List ℕ)) → (client_cut t).lines ≡ [] ∷ others → ⊥
      no_empty [] others e = cc
      no_empty (b ∷ t) others e = by (b == 0) e
        where
          by : (d : Bool) → (cond d (with_line (b ∷ []) (cut_from (λ line. false) 1 [] t)) (record { lines = []; fault = line_fault NoNul 0 })).lines ≡ [] ∷ others → ⊥
          by true e = cc
          by false e = cc

      go : (given : List (List ℕ)) → client_cut pushed ≡ behind given (client_ahead old) → length (joined given) ≡ 0 → given ≡ []
      go [] c l = refl
      go ([] ∷ given) c l = absurd (no_empty pushed (given ++ (client_ahead old).lines) (ap (λ (c : Cut). c.lines) c))
      go ((b ∷ line) ∷ given) c l = absurd (omega (arith, l))

pub client-next : (pushed : List ℕ) (given : List (List ℕ)) (old : Watch) (next : NextLine) (new : Watch) → ClientFollows pushed given old → ClientGives old next new → ClientTells pushed given next new
client-next pushed given old Nul new s g =
    let none : given ≡ [] = no-lines pushed given old s g.0 in
    (none, subst (λ (ls : List (List ℕ)). ClientFollows pushed (ls ++ (0 ∷ []) ∷ []) new) none (client-takes pushed given old s (0 ∷ []) new refl g.1))
client-next pushed given old (Line line) new s g = client-takes pushed given old s line new g.1 g.2
client-next pushed given old (Begin line) new s g = client-ends pushed given old s line new g.1 g.2
client-next pushed given old Incomplete new s g = client-waits pushed given old s new g
client-next pushed given old (Bad f) new s (inl t) = client-fails pushed given old s f new (s.told f t.0) (client-stays pushed given old s new t.1) (ap (λ (w : Watch). w.bad) t.1 ∙ t.0)
client-next pushed given old (Bad f) new s (inr t) = client-tells pushed given old s f new t
client-next pushed given old Done new s g = absurd g

-- ---- the bus

pub bus-starts : BusFollows [] [] at_start
bus-starts = record { parts = refl; place = refl; cut = refl; told = λ f e. absurd (none-some f e) }

told-stays : (w : Watch) (x : List ℕ) (f : LineFault) → IsTold w f → IsTold (record w { left = w.left ++ x }) f
told-stays w x f (inl e) = inl (cut-stays agrees w.left x w.place [] f (ap (λ (c : Cut). c.fault) e) ∙ e)
told-stays w x f (inr e) = inr (omega (arith, e.0, length-append w.left x), e.1)

pub bus-pushed : (pushed : List ℕ) (given : List (List ℕ)) (w : Watch) (piece : List ℕ) → BusFollows pushed given w → BusFollows (pushed ++ piece) given (record w { left = w.left ++ piece })
bus-pushed pushed given w piece s =
    let parts : pushed ++ piece ≡ joined given ++ (w.left ++ piece) = ap (λ (t : List ℕ). t ++ piece) s.parts ∙ append_assoc (joined given) w.left piece in
    record {
      parts = parts;
      place = s.place;
      cut =
          ap bus_cut parts
          ∙ cut-given agrees given 0 w.left (bus_ahead w).lines (ap (λ (t : List ℕ). (bus_cut t).lines) (sym s.parts) ∙ ap (λ (c : Cut). c.lines) s.cut) (w.left ++ piece)
          ∙ ap (λ (n : ℕ). behind given (cut_from agrees n [] (w.left ++ piece))) (zero_add (length (joined given)) ∙ sym s.place);
      told = λ f e. told-stays w piece f (s.told f e);
    }
  where
    zero_add : (n : ℕ) → 0 + n ≡ n
    zero_add n = omega arith

module _ (pushed : List ℕ) (given : List (List ℕ)) (old : Watch) (s : BusFollows pushed given old) where
  bus-stays : (new : Watch) → new ≡ old → BusFollows pushed given new
  bus-stays new e = subst (BusFollows pushed given) (sym e) s

  bus-takes : (line : List ℕ) (new : Watch) → Takes bus_ahead old line new → BusFollows pushed (given ++ line ∷ []) new
  bus-takes line new t = record {
    parts = parts-more pushed given line old.left new.left s.parts t.parts;
    place = ap (λ (w : Watch). w.place) t.is ∙ ap (λ (n : ℕ). n + length line) s.place ∙ sym (length-more given line);
    cut = s.cut ∙ ap (behind given) t.cut ∙ behind-more given line (bus_ahead new);
    told = λ f e. absurd (not_told new.bad f (ap (λ (w : Watch). w.bad) t.is) e);
  }

  -- more lines are asked for than were given, and there are no more
  module _ (n : ℕ) (f : Option LineFault) (less : length given < n) (ahead : bus_ahead old ≡ record { lines = []; fault = f }) where
    few-lines : bus_lines n pushed ≡ given
    few-lines = ap (λ (c : Cut). take n c.lines) (s.cut ∙ ap (behind given) ahead) ∙ ap (take n) (append-nil given) ∙ take_all n given (omega (arith, less))

    fewer : nat_lt (length (bus_lines n pushed)) n ≡ true
    fewer = ap (λ (ls : List (List ℕ)). nat_lt (length ls) n) few-lines ∙ lt-ltb (length given) n less

    few-fault : (begun : Bool) → bus_fault n begun pushed ≡ f
    few-fault begun = ap (λ (b : Bool). cond b (bus_cut pushed).fault (early begun n pushed)) fewer ∙ ap (λ (c : Cut). c.fault) (s.cut ∙ ap (behind given) ahead)

    few-left : after_lines n pushed ≡ []
    few-left = fewer_then_none n pushed fewer

  -- no more lines are asked for
  all-given : bus_lines (length given) pushed ≡ given
  all-given = ap (λ (c : Cut). take (length given) c.lines) s.cut ∙ take_front given (bus_ahead old).lines
    where
      take_front : (given more : List (List ℕ)) → take (length given) (given ++ more) ≡ given
      take_front [] more = refl
      take_front (line ∷ given) more = ap (λ (ls : List (List ℕ)). line ∷ ls) (take_front given more)

  all-left : after_lines (length given) pushed ≡ old.left
  all-left =
      if_all_is (length given) pushed (ap length all-given)
      ∙ ap (λ (ls : List (List ℕ)). drop (length (joined ls)) pushed) all-given
      ∙ ap (drop (length (joined given))) s.parts
      ∙ drop_at (joined given) old.left (length (joined given)) refl

  not-fewer : nat_lt (length (bus_lines (length given) pushed)) (length given) ≡ false
  not-fewer = ap (λ (ls : List (List ℕ)). nat_lt (length ls) (length given)) all-given ∙ le-ltb (length given) (length given) (omega arith)

  -- what BEGIN is still awaited for
  unbegun-fault : bus_fault (length given) false pushed ≡ cond (nat_lt 0 (length old.left)) (line_fault EarlyBus old.place) None
  unbegun-fault =
      ap (λ (b : Bool). cond b (bus_cut pushed).fault (early false (length given) pushed)) not-fewer
      ∙ ap (λ (t : List ℕ). cond (nat_lt 0 (length t)) (line_fault EarlyBus (length (joined (bus_lines (length given) pushed)))) None) all-left
      ∙ ap (λ (ls : List (List ℕ)). cond (nat_lt 0 (length old.left)) (line_fault EarlyBus (length (joined ls))) None) all-given
      ∙ ap (λ (n : ℕ). cond (nat_lt 0 (length old.left)) (line_fault EarlyBus n) None) (sym s.place)

  early-fault : 0 < length old.left → (f : LineFault) → f ≡ record { kind = EarlyBus; at = old.place } → bus_fault (length given) false pushed ≡ Some f
  early-fault h f is = unbegun-fault ∙ ap (λ (b : Bool). cond b (line_fault EarlyBus old.place) None) (lt-ltb 0 (length old.left) h) ∙ ap (λ (g : LineFault). some g) (sym is)

  pub told-fault : (f : LineFault) → old.bad ≡ Some f → BusFault pushed given f
  told-fault f e = go (s.told f e)
    where
      go : IsTold old f → BusFault pushed given f
      go (inl cut) = inl (λ n begun less. (few-fault n (Some f) less cut begun, few-lines n (Some f) less cut))
      go (inr t) = inr (early-fault t.0 f t.1, all-given)

  module _ (n : ℕ) (begun : Bool) (le : length given ≤ n) where
    is-all : n - length given ≡ 0 → length given ≡ n
    is-all e = omega (arith, le, e)

    is-less : 0 < n - length given → length given < n
    is-less h = omega (arith, le, h)

    bus-ends : (new : Watch) → Ends (n - length given) begun old new → BusEnds pushed given n begun new
    bus-ends new e =
        let all : length given ≡ n = is-all e.none in
        record {
          follows = bus-stays new e.same;
          all = all;
          seen = e.seen;
          lines = ap (λ (k : ℕ). bus_lines k pushed) (sym all) ∙ all-given;
          sound = ap₂ (λ (k : ℕ) (b : Bool). bus_fault k b pushed) (sym all) e.seen ∙ no_bus_fault (length given) pushed (ap length all-given);
          left = ap (λ (k : ℕ). after_lines k pushed) (sym all) ∙ all-left ∙ ap (λ (w : Watch). w.left) (sym e.same);
        }

    bus-waits : (new : Watch) → 0 < n - length given → Waits bus_ahead old new → BusWaits pushed given n begun new
    bus-waits new h w = record {
      follows = bus-stays new w.same;
      lines = few-lines n None (is-less h) w.cut;
      sound = few-fault n None (is-less h) w.cut begun;
      none_left = few-left n None (is-less h) w.cut;
    }

    bus-waits_for_begin : (new : Watch) → WaitsForBegin (n - length given) begun old new → BusWaits pushed given n begun new
    bus-waits_for_begin new w =
        let all : length given ≡ n = is-all w.none in
        record {
          follows = bus-stays new w.same;
          lines = ap (λ (k : ℕ). bus_lines k pushed) (sym all) ∙ all-given;
          sound = ap₂ (λ (k : ℕ) (b : Bool). bus_fault k b pushed) (sym all) w.unseen ∙ unbegun-fault ∙ ap (λ (t : List ℕ). cond (nat_lt 0 (length t)) (line_fault EarlyBus old.place) None) w.empty;
          none_left = ap (λ (k : ℕ). after_lines k pushed) (sym all) ∙ all-left ∙ w.empty;
        }

    bus-tells_again : (f : LineFault) (new : Watch) → TellsAgain old f new → BusFails pushed given n begun old f new
    bus-tells_again f new t = record {
      follows = bus-stays new t.1;
      told = ap (λ (w : Watch). w.bad) t.1 ∙ t.0;
      fault = λ e. absurd (not_told old.bad f e t.0);
      lines = λ e. absurd (not_told old.bad f e t.0);
      again = λ g e. same_Some g f (sym e ∙ t.0);
    }

    bus-keeps : (f : LineFault) → IsTold old f → BusFollows pushed given (record old { bad = Some f })
    bus-keeps f t = record {
      parts = s.parts;
      place = s.place;
      cut = s.cut;
      told = λ g e. subst (IsTold old) (same_Some f g e) t;
    }

    bus-tells : (f : LineFault) (new : Watch) → 0 < n - length given → Tells bus_ahead old f new → BusFails pushed given n begun old f new
    bus-tells f new h t = record {
      follows = subst (BusFollows pushed given) (sym t.is) (bus-keeps f (inl t.cut));
      told = ap (λ (w : Watch). w.bad) t.is;
      fault = λ e. few-fault n (Some f) (is-less h) t.cut begun;
      lines = λ e. few-lines n (Some f) (is-less h) t.cut;
      again = λ g e. absurd (not_told old.bad g t.sound e);
    }

    bus-tells_early : (f : LineFault) (new : Watch) → TellsEarly (n - length given) begun old f new → BusFails pushed given n begun old f new
    bus-tells_early f new t =
        let all : length given ≡ n = is-all t.none in
        record {
          follows = subst (BusFollows pushed given) (sym t.is) (bus-keeps f (inr (t.some, t.early)));
          told = ap (λ (w : Watch). w.bad) t.is;
          fault = λ e. ap₂ (λ (k : ℕ) (b : Bool). bus_fault k b pushed) (sym all) t.unseen ∙ early-fault t.some f t.early;
          lines = λ e. ap (λ (k : ℕ). bus_lines k pushed) (sym all) ∙ all-given;
          again = λ g e. absurd (not_told old.bad g t.sound e);
        }

pub bus-next : (pushed : List ℕ) (given : List (List ℕ)) (n : ℕ) (begun : Bool) (old : Watch) (next : NextLine) (new : Watch) → length given ≤ n → BusFollows pushed given old
    → BusGives (n - length given) begun old next new → BusTells pushed given n begun old next new
bus-next pushed given n begun old (Line line) new le s g = (omega (arith, length-append given (line ∷ []), le, g.0), bus-takes pushed given old s line new g.1)
bus-next pushed given n begun old Done new le s g = bus-ends pushed given old s n begun le new g
bus-next pushed given n begun old Incomplete new le s (inl w) = bus-waits pushed given old s n begun le new w.0 w.1
bus-next pushed given n begun old Incomplete new le s (inr w) = bus-waits_for_begin pushed given old s n begun le new w
bus-next pushed given n begun old (Bad f) new le s (inl t) = bus-tells_again pushed given old s n begun le f new t
bus-next pushed given n begun old (Bad f) new le s (inr (inl t)) = bus-tells pushed given old s n begun le f new t.0 t.1
bus-next pushed given n begun old (Bad f) new le s (inr (inr t)) = bus-tells_early pushed given old s n begun le f new t
bus-next pushed given n begun old Nul new le s g = absurd g
bus-next pushed given n begun old (Begin line) new le s g = absurd g

-- ---- a fault is reported again

abbrev the_bad : LineFault → NextLine
the_bad f = Bad f

pub client-again : (old : Watch) (f : LineFault) (next : NextLine) (new : Watch) → old.bad ≡ Some f → ClientGives old next new → (next ≡ Bad f) × (new ≡ old)
client-again old f Nul new e g = absurd (not_told old.bad f g.1.sound e)
client-again old f (Line line) new e g = absurd (not_told old.bad f g.2.sound e)
client-again old f (Begin line) new e g = absurd (not_told old.bad f g.2.sound e)
client-again old f Incomplete new e g = absurd (not_told old.bad f g.sound e)
client-again old f (Bad h) new e (inl t) = (ap the_bad (same_Some h f (sym t.0 ∙ e)), t.1)
client-again old f (Bad h) new e (inr t) = absurd (not_told old.bad f t.sound e)
client-again old f Done new e g = absurd g

pub bus-again : (unanswered : ℕ) (begun : Bool) (old : Watch) (f : LineFault) (next : NextLine) (new : Watch) → old.bad ≡ Some f → BusGives unanswered begun old next new → (next ≡ Bad f) × (new ≡ old)
bus-again unanswered begun old f (Line line) new e g = absurd (not_told old.bad f g.1.sound e)
bus-again unanswered begun old f Done new e g = absurd (not_told old.bad f g.sound e)
bus-again unanswered begun old f Incomplete new e (inl w) = absurd (not_told old.bad f w.1.sound e)
bus-again unanswered begun old f Incomplete new e (inr w) = absurd (not_told old.bad f w.sound e)
bus-again unanswered begun old f (Bad h) new e (inl t) = (ap the_bad (same_Some h f (sym t.0 ∙ e)), t.1)
bus-again unanswered begun old f (Bad h) new e (inr (inl t)) = absurd (not_told old.bad f t.1.sound e)
bus-again unanswered begun old f (Bad h) new e (inr (inr t)) = absurd (not_told old.bad f t.sound e)
bus-again unanswered begun old f Nul new e g = absurd g
bus-again unanswered begun old f (Begin line) new e g = absurd g
