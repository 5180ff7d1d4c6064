-- The lines of a stream are taken, one after the other.
use Rattle.std.proofs.Common.{ℕ, suc, ◌≡◌, ◌+◌, ◌-◌, ◌<◌, Bool, true, false, cond, List, [], ◌∷◌, ◌++◌, length, Option, Some, None, refl, ap, ◌∙◌, sym, subst, arith, length-append}
use Rattle.std.specs.Prelude.{◌==◌, ◌||◌}
use Rattle.std.proofs.lemmas.Bool.{eqb-true, eq-eqb, ne_eqb}
use Rattle.std.proofs.lemmas.Bool.Decides.{nat_tests}
use Rattle.std.proofs.Math.Bool.{or-true}
use Rattle.byte_lists.proofs.Bytes.{AreBytes-behind}
use Rattle.byte_lists.specs.Bytes.{AreBytes}
use Rattle.dbus_names.specs.Names.{is_empty}
use Rattle.sasl_watch.specs.Lines.{is_begin, for_bus, asked, has_begun as begins_in}
use Rattle.sasl_watch.specs.Watching.{client_ahead, bus_ahead}
use Rattle.sasl_watch.specs.declared.LineFault.{LineFault}
use Rattle.sasl_watch.specs.declared.LineKind.TheVariants.{EarlyBus}
use Rattle.policy_args.specs.Policy.{Policy}
use Rattle.policy_view.specs.Past.{Item, Line, History}
use Rattle.policy_view.specs.History.{Event, stream, followed_by}
use Rattle.policy_view.specs.declared.Fault.TheVariants.{Line as OfLine}
use Rattle.policy_view.specs.declared.Mode.{Mode}
use Rattle.policy_view.specs.declared.Side.TheVariants.{Client, Bus}
use Rattle.proxy_core.specs.Streams.{StreamView, Phase, InLines, InMessages}
use Rattle.proxy_core.specs.Sessions.{SessionView, Taken, Holds, StandsAt}
use Rattle.proxy_core.specs.Steps.{with_stream, behind_line, in_messages, begun_if, asks, visible_with_line, with_client_line, with_bus_line, with_line_fault, with_lines, with_all_answered, unanswered, has_begun, line_step, more_if, drained}
use Rattle.proxy_core.proofs.LineCuts.{sound_at, behind, ClientGoes, client_goes, BusGoes, bus_goes}
use Rattle.proxy_core.proofs.Going.{GoesInLines, begins, client_stops, client_stands, client_line_goes, begin_goes, bus_stops, bus_stands, bus_line_goes, early_stops, none_stops, done_goes}
use Rattle.proxy_core.proofs.Followed.{stream_holds, client_line_holds, bus_line_holds}
use Rattle.proxy_core.proofs.Driving.{LastOf, KnowsClient, none_last, fault_last, item_last, Others}

asks_by : (place : ℕ) (l : List ℕ) (b : Bool) → is_begin l ≡ b → asks place l ≡ cond (place == 0 || b) 0 1
asks_by place l b e = ap (λ (x : Bool). cond (place == 0 || x) 0 1) e

asks_first : (place : ℕ) (l : List ℕ) → is_begin l ≡ false → place ≡ 0 → asks place l ≡ 0
asks_first place l e z = asks_by place l false e ∙ ap (λ (x : Bool). cond (x || false) 0 1) (eq-eqb place 0 z)

asks_other : (place : ℕ) (l : List ℕ) → is_begin l ≡ false → 0 < place → asks place l ≡ 1
asks_other place l e pos = asks_by place l false e ∙ ap (λ (x : Bool). cond (x || false) 0 1) (ne_eqb place 0 (λ z. omega (arith, z, pos)))

asks_begin : (place : ℕ) (l : List ℕ) → is_begin l ≡ true → asks place l ≡ 0
asks_begin place l e = asks_by place l true e ∙ ap (λ (x : Bool). cond x 0 1) (or-true (place == 0))

module _ (whole : Bool) (policy : Policy) (taken : Taken) (mode : Mode) (gone : List ℕ) (events : List Event) (n : ℕ) (view : SessionView) (place : ℕ) (items : History) (given : List Item) (runs : view.ended ≡ None) (moded : view.mode ≡ mode) (at : view.client.phase ≡ InLines place None)
    (g : GoesInLines mode Client gone events view.client place None given) (h : Holds policy view items taken) (are : AreBytes view.client.left) (short : whole ≡ true → length view.client.left + 1 < suc n) (others : Others whole policy taken mode Client gone events n) where
  abbrev ClientLast : SessionView → Type 0
  ClientLast new = LastOf whole policy taken mode Client gone events items given new

  client_line_last : (l : List ℕ) → ClientGoes (stream Client events) g.given place view.client.left l → ClientLast (drained policy Client n (with_client_line place l view))
  client_line_last l c = by (is_begin l) refl
    where
      rest_short : length (behind place view.client.left l).left < length view.client.left
      rest_short = let e : length view.client.left ≡ length l + length (behind place view.client.left l).left = ap length c.parts ∙ length-append l (behind place view.client.left l).left in let s = c.some in omega (arith, e, s)

      rest_bytes : AreBytes (behind place view.client.left l).left
      rest_bytes = AreBytes-behind l (behind place view.client.left l).left (subst AreBytes c.parts are)

      by : (b : Bool) → is_begin l ≡ b → ClientLast (drained policy Client n (with_client_line place l view))
      by false e =
          let s : StreamView = record view.client { phase = InLines (place + length l) None; left = (behind place view.client.left l).left; lines = view.client.lines + asks place l } in
          let v : SessionView = record view { bus_side = view.bus_side ++ for_bus l; client = s; visible = visible_with_line Client l view } in
          let is : with_client_line place l view ≡ v = ap (λ (b : Bool). record view { bus_side = view.bus_side ++ for_bus l; client = begun_if b (behind_line place l (asks place l) view.client); visible = visible_with_line Client l view }) e in
          let goes = client_line_goes mode gone events view.client place given g l (asks place l) c e (asks_first place l e) (asks_other place l e) in
          subst (λ (x : SessionView). ClientLast (drained policy Client n x)) (sym is)
          (item_last whole policy taken mode Client gone events items given (Line Client l) (drained policy Client n v) (begins mode Client gone events (InLines (place + length l) None) s (given ++ Line Client l ∷ []) goes)
          (others v (followed_by policy items (Line Client l)) (given ++ Line Client l ∷ []) (λ w. let s = short w in omega (arith, rest_short, s)) runs moded goes (client_line_holds policy view items taken l s runs h) rest_bytes tt))
      by true e =
          let s : StreamView = record view.client { phase = InMessages; left = (behind place view.client.left l).left; lines = view.client.lines + 0 } in
          let v : SessionView = record view { bus_side = view.bus_side ++ for_bus l; client = s; visible = visible_with_line Client l view } in
          let is : with_client_line place l view ≡ v =
          ap (λ (b : Bool). record view { bus_side = view.bus_side ++ for_bus l; client = begun_if b (behind_line place l (asks place l) view.client); visible = visible_with_line Client l view }) e
          ∙ ap (λ (k : ℕ). record view { bus_side = view.bus_side ++ for_bus l; client = in_messages (behind_line place l k view.client); visible = visible_with_line Client l view }) (asks_begin place l e) in
          let goes = begin_goes mode gone events view.client place given g l c e in
          subst (λ (x : SessionView). ClientLast (drained policy Client n x)) (sym is)
          (item_last whole policy taken mode Client gone events items given (Line Client l) (drained policy Client n v) (begins mode Client gone events InMessages s (given ++ Line Client l ∷ []) goes)
          (others v (followed_by policy items (Line Client l)) (given ++ Line Client l ∷ []) (λ w. let s = short w in omega (arith, rest_short, s)) runs moded goes (client_line_holds policy view items taken l s runs h) rest_bytes tt))

  pub client_lines_last : (ls : List (List ℕ)) (o : Option LineFault) → (client_ahead (sound_at place view.client.left)).lines ≡ ls → (client_ahead (sound_at place view.client.left)).fault ≡ o → ClientLast (more_if (with_lines Client place ls o view) (drained policy Client n))
  client_lines_last [] None e f =
      let t = client_stands mode gone events view.client place given g e f in
      none_last whole policy taken mode Client gone events view items given h (client_stops mode gone events view.client place given g e None f) (subst (λ (p : Phase). StandsAt mode Client events p view.client.left) (sym at) t.0) (λ a. t.1) are
  client_lines_last [] (Some x) e f =
      fault_last whole policy taken mode Client gone events (with_stream Client (record view.client { phase = InLines place (Some x) }) view) items given (OfLine x) runs (stream_holds policy view items taken Client (record view.client { phase = InLines place (Some x) }) h) (client_stops mode gone events view.client place given g e (Some x) f)
  client_lines_last (l ∷ ls) o e f = client_line_last l (client_goes (stream Client events) g.given place view.client.left l ls g.follows e)

-- ---- the bus's lines

module _ (whole : Bool) (policy : Policy) (taken : Taken) (mode : Mode) (gone : List ℕ) (events : List Event) (n : ℕ) (view : SessionView) (place : ℕ) (items : History) (given : List Item) (runs : view.ended ≡ None) (moded : view.mode ≡ mode) (at : view.bus.phase ≡ InLines place None)
    (g : GoesInLines mode Bus gone events view.bus place None given) (h : Holds policy view items taken) (are : AreBytes view.bus.left) (short : whole ≡ true → length view.bus.left + 1 < suc n) (knows : KnowsClient mode events view.client) (others : Others whole policy taken mode Bus gone events n) where
  abbrev BusLast : SessionView → Type 0
  BusLast new = LastOf whole policy taken mode Bus gone events items given new

  abbrev all_asked : ℕ
  all_asked = asked (stream Client events)

  left_to_answer : unanswered view ≡ all_asked - length g.given
  left_to_answer = ap (λ (k : ℕ). k - view.bus.lines) (knows.lines g.auth) ∙ ap (λ (k : ℕ). all_asked - k) g.counts.0

  bus_line_last : (l : List ℕ) → BusGoes (stream Bus events) g.given all_asked place view.bus.left l → BusLast (drained policy Bus n (with_bus_line place l view))
  bus_line_last l c =
      let s : StreamView = record view.bus { phase = InLines (place + length l) None; left = (behind place view.bus.left l).left; lines = view.bus.lines + 1 } in
      let v : SessionView = record view { client_side = view.client_side ++ l; bus = s; visible = visible_with_line Bus l view } in
      let goes = bus_line_goes mode gone events view.bus place given g l c in
      let parts : length view.bus.left ≡ length l + length (behind place view.bus.left l).left = ap length c.parts ∙ length-append l (behind place view.bus.left l).left in
      let some = c.some in
      item_last whole policy taken mode Bus gone events items given (Line Bus l) (drained policy Bus n v) (begins mode Bus gone events (InLines (place + length l) None) s (given ++ Line Bus l ∷ []) goes)
      (others v (followed_by policy items (Line Bus l)) (given ++ Line Bus l ∷ []) (λ w. let s = short w in omega (arith, parts, some, s)) runs moded goes (bus_line_holds policy view items taken l s runs h)
      (AreBytes-behind l (behind place view.bus.left l).left (subst AreBytes c.parts are)) knows)

  bus_lines_last : 0 < all_asked - length g.given → (ls : List (List ℕ)) (o : Option LineFault) → (bus_ahead (sound_at place view.bus.left)).lines ≡ ls → (bus_ahead (sound_at place view.bus.left)).fault ≡ o
      → BusLast (more_if (with_lines Bus place ls o view) (drained policy Bus n))
  bus_lines_last pos [] None e f =
      let t = bus_stands mode gone events view.bus place given g pos e f in
      none_last whole policy taken mode Bus gone events view items given h (bus_stops mode gone events view.bus place given g pos e None f) (subst (λ (p : Phase). StandsAt mode Bus events p view.bus.left) (sym at) t.0) (λ a. t.1) are
  bus_lines_last pos [] (Some x) e f =
      fault_last whole policy taken mode Bus gone events (with_stream Bus (record view.bus { phase = InLines place (Some x) }) view) items given (OfLine x) runs (stream_holds policy view items taken Bus (record view.bus { phase = InLines place (Some x) }) h) (bus_stops mode gone events view.bus place given g pos e (Some x) f)
  bus_lines_last pos (l ∷ ls) o e f = bus_line_last l (bus_goes (stream Bus events) g.given all_asked (begins_in (stream Client events)) place view.bus.left g.counts.1 g.follows l ls pos e)

  -- all lines were answered
  all_answered_last : all_asked - length g.given ≡ 0 → (begun : Bool) → has_begun view ≡ begun → (left : List ℕ) → view.bus.left ≡ left
      → BusLast (more_if (cond begun (record view { bus = in_messages view.bus }, true) (with_line_fault Bus place (cond (is_empty left) None (Some (record { kind = EarlyBus; at = place }))) view, false)) (drained policy Bus n))
  all_answered_last none true b left l =
      let v : SessionView = record view { bus = in_messages view.bus } in
      others v items given (λ w. let s = short w in omega (arith, s)) runs moded (done_goes mode gone events view.bus place given g none (sym (knows.begun g.auth) ∙ b)) (stream_holds policy view items taken Bus (in_messages view.bus) h) are knows
  all_answered_last none false b [] l =
      let t = none_stops mode gone events view.bus place given g none (sym (knows.begun g.auth) ∙ b) l in
      none_last whole policy taken mode Bus gone events view items given h t.0 (subst (λ (p : Phase). StandsAt mode Bus events p view.bus.left) (sym at) t.1) (λ a. t.2) are
  all_answered_last none false b (x ∷ xs) l =
      let some : 0 < length view.bus.left = subst (λ (w : List ℕ). 0 < length w) (sym l) (omega arith) in
      let f : LineFault = record { kind = EarlyBus; at = place } in
      fault_last whole policy taken mode Bus gone events (with_stream Bus (record view.bus { phase = InLines place (Some f) }) view) items given (OfLine f) runs (stream_holds policy view items taken Bus (record view.bus { phase = InLines place (Some f) }) h)
      (early_stops mode gone events view.bus place given g none (sym (knows.begun g.auth) ∙ b) some)

  pub bus_step_last : BusLast (more_if (line_step Bus place view) (drained policy Bus n))
  bus_step_last = by (unanswered view == 0) refl
    where
      by : (b : Bool) → (unanswered view == 0) ≡ b → BusLast (more_if (cond b (with_all_answered place view) (with_lines Bus place (bus_ahead (sound_at place view.bus.left)).lines (bus_ahead (sound_at place view.bus.left)).fault view)) (drained policy Bus n))
      by true e = all_answered_last (sym left_to_answer ∙ eqb-true (unanswered view) 0 e) (has_begun view) refl view.bus.left refl
      by false e = bus_lines_last (positive left_to_answer e) (bus_ahead (sound_at place view.bus.left)).lines (bus_ahead (sound_at place view.bus.left)).fault refl refl
        where
          positive : {k m : ℕ} → k ≡ m → (k == 0) ≡ false → 0 < m
          positive {k} {m} same e = grind (arith, nat_tests, same, e)
