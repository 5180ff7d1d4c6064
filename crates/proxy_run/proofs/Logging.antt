-- The log of a run, turn by turn.
use Rattle.std.proofs.Common.{ℕ, nat_eq, ◌≡◌, ◌≤◌, ◌⊎◌, inl, inr, Bool, true, false, is_some, is_none, List, [], ◌∷◌, ◌++◌, Option, Some, None, if◌then◌else◌, refl, ap, sym, ◌∙◌, subst, append-nil, arith, length}
use Rattle.std.proofs.lemmas.List.{append_cancel_left}
use Rattle.link_traits.specs.Journals.{Journal}
use Rattle.link_traits.specs.Told.{Rose}
use Rattle.link_traits.specs.Answers.{client_link, bus_link}
use Rattle.link_traits.specs.Entries.{Entry, ready as Ready, read as Read, finished as Ended, shut as Shut}
use Rattle.link_traits.specs.declared.links.Link.{Link}
use Rattle.link_traits.specs.declared.links.Ready.{Ready as ReadyAnswer}
use Rattle.link_traits.specs.declared.links.Side.{Side}
use Rattle.link_traits.specs.Views.{Appends, SinkView}
use Rattle.policy_args.specs.Policy.{Policy}
use Rattle.policy_args.specs.declared.line.Block.{Block}
use Rattle.policy_view.specs.declared.Mode.{Mode}
use Rattle.policy_view.specs.History.{Stopped, Finished, Event, first_items, history, arrived, finished, new_in}
use Rattle.policy_view.specs.Notes.{notes}
use Rattle.policy_view.specs.Past.{History}
use Rattle.policy_view.proofs.CutLaws.{new_last}
use Rattle.explain_log.specs.Lines.{log}
use Rattle.proxy_core.proofs.Fronts.{notes_ended}
use Rattle.proxy_loop.specs.Sessions.{events_of, side_of}
use Rattle.proxy_loop.specs.Kinds.{writes_of, all_are}
use Rattle.proxy_loop.specs.Works.{ShutBoth}
use Rattle.proxy_loop.specs.declared.serving.Running.{Running}
use Rattle.proxy_loop.specs.Runs.{HoldsFirstOf, log_of, is_over, WhyCut}
use Rattle.proxy_loop.specs.Tables.{Table, session_mode}
use Rattle.proxy_loop.specs.Servers.{listener_of, BlockLogs, SessionLogged}
use Rattle.proxy_loop.proofs.KindCases.{session_write_cases}
use Rattle.proxy_loop.proofs.Holding.{events_append}
use Rattle.proxy_loop.proofs.Joining.{all_implied}
use Rattle.proxy_loop.proofs.Logged.{appends_none}
use Rattle.proxy_loop.proofs.Prefixes.{IsSameButEnd, common, stops_given}
use Rattle.proxy_loop.proofs.Refused.{given_without_end}
use Rattle.proxy_loop.proofs.Stopping.{AllStops, and_first, and_second}
use Rattle.proxy_run.specs.Logs.{all_items, read_of, lines_under, lines_at, lines_of, block_at, is_cut, ReadLogs, IsWritten, LogOf}

-- ---- entries that aren't reads

abbrev pub is_unread : Entry → Bool
is_unread entry = is_none (read_of entry)

-- with the entry in front that isn't a read
pub unread_more : (log_failed : Type 0) (blocks : List Block) (entry : Entry) (journal : Journal) (cut got : List ℕ) → is_unread entry ≡ true → LogOf log_failed blocks journal cut got → LogOf log_failed blocks (entry ∷ journal) cut got
unread_more log_failed blocks entry journal cut got u l = at_entry (read_of entry) refl
  where
    at_entry : (o : Option ℕ) → read_of entry ≡ o → LogOf log_failed blocks (entry ∷ journal) cut got
    at_entry None e = rw e l
    at_entry (Some n) e = let x : is_none (Some n) ≡ true = ap is_none (sym e) ∙ u in cc

pub unread_log : (log_failed : Type 0) (blocks : List Block) (added was : Journal) (cut got : List ℕ) → all_are is_unread added ≡ true → LogOf log_failed blocks was cut got → LogOf log_failed blocks (added ++ was) cut got
unfolding all_are
unread_log log_failed blocks [] was cut got h l = l
unread_log log_failed blocks (entry ∷ added) was cut got h l =
    unread_more log_failed blocks entry (added ++ was) cut got (and_first (is_unread entry) (all_are is_unread added) h)
    (unread_log log_failed blocks added was cut got (and_second (is_unread entry) (all_are is_unread added) h) l)

write_unread : (n : ℕ) (entry : Entry) → writes_of n entry ≡ true → is_unread entry ≡ true
write_unread n entry h = session_write_cases (λ (e : Entry). is_unread e ≡ true) n entry h (λ at bytes same. refl) (λ at same. refl) (λ at same. refl)

pub writes_unread : (n : ℕ) (added : Journal) → all_are (writes_of n) added ≡ true → all_are is_unread added ≡ true
writes_unread n added h = all_implied (writes_of n) is_unread (write_unread n) added h

shut_unread : (n : ℕ) (client bus : Bool) → all_are is_unread ((if bus then Shut (bus_link n) ∷ [] else []) ++ (if client then Shut (client_link n) ∷ [] else [])) ≡ true
unfolding all_are
shut_unread n true true = refl
shut_unread n true false = refl
shut_unread n false true = refl
shut_unread n false false = refl

pub shuts_unread : (n : ℕ) (client bus : Bool) (added : Journal) → ShutBoth n client bus added → all_are is_unread added ≡ true
shuts_unread n client bus added s = rw s.is (shut_unread n client bus)

-- ---- what a session's log is if nothing was read of it

module _ (policy : Policy) (mode : Mode) (n : ℕ) where
  pub stops_log : (added was : Journal) → AllStops (events_of n added) → log_of policy mode n (added ++ was) ≡ log_of policy mode n was
  unfolding log_of
  stops_log added was h =
      ap (λ (es : List Event). log n (notes policy (history policy mode es))) (events_append n added was)
      ∙ ap (log n) (stops_given policy mode (notes policy) (notes_ended policy) (events_of n added) (events_of n was) h)

  finished_notes : (side : Side) (b : Bool) (events : List Event) →
      log n (notes policy (history policy mode ((if b then Finished (side_of side) ∷ [] else []) ++ events))) ≡ log n (notes policy (history policy mode events))
  unfolding history arrived
  finished_notes side true events = ap (log n) (stops_given policy mode (notes policy) (notes_ended policy) (Stopped (finished (side_of side)) ∷ []) events refl)
  finished_notes side false events = refl

  pub finished_log : (link : Link) (was : Journal) → log_of policy mode n (Ended link ∷ was) ≡ log_of policy mode n was
  unfolding log_of events_of
  finished_log link was = finished_notes link.side (nat_eq link.session n) (events_of n was)

  pub ready_log : (answer : ReadyAnswer) (was : Journal) → log_of policy mode n (Ready answer ∷ was) ≡ log_of policy mode n was
  unfolding log_of events_of
  ready_log answer was = refl

-- ---- a session that was served

-- what the log of the journal grew by; where lines weren't all written, the session has an End
pub record Grows (log_failed : Type 0) (blocks : List Block) (n : ℕ) (new : Table) (now : Journal) (before got : List ℕ) (first last : SinkView) : Type 0 where
  pub cut : List ℕ
  pub more : List ℕ
  pub log : LogOf log_failed blocks now cut (got ++ more)
  pub appends : Appends first last more
  pub cuts : (cut ≡ before) ⊎ ((cut ≡ n ∷ before) × ((running : Running) → new.at n ≡ Some running → is_some running.session.ended ≡ true))

no_lines : (xs lines rest : List ℕ) → xs ≡ xs ++ (lines ++ rest) → lines ≡ []
no_lines xs [] rest e = refl
no_lines xs (x ∷ lines) rest e = let none : [] ≡ (x ∷ lines) ++ rest = append_cancel_left xs [] ((x ∷ lines) ++ rest) (append-nil xs ∙ e) in cc

-- of a session under this block only entries that aren't reads were told
module _ (log_failed : Type 0) (blocks : List Block) (n : ℕ) (block : Block) (new : Table) (was now : Journal) (before got : List ℕ) (first last : SinkView) (widen : Rose first.faults last.faults → log_failed) where
  pub unread_grows : log_of block.options.policy (session_mode block.options) n now ≡ log_of block.options.policy (session_mode block.options) n was →
      LogOf log_failed blocks now before got → (b : Bool) → BlockLogs b block n new was now first last → Grows log_failed blocks n new now before got first last
  unread_grows same l true d =
      let grown : log_of block.options.policy (session_mode block.options) n now ≡ log_of block.options.policy (session_mode block.options) n was ++ (d.logged.lines ++ d.logged.rest) =
      subst (λ (m : Mode). log_of block.options.policy m n now ≡ log_of block.options.policy m n was ++ (d.logged.lines ++ d.logged.rest)) d.mode d.logged.is in
      let none : d.logged.lines ≡ [] = no_lines (log_of block.options.policy (session_mode block.options) n was) d.logged.lines d.logged.rest (sym same ∙ grown) in
      record {
        cut = before;
        more = [];
        log = subst (λ (g : List ℕ). LogOf log_failed blocks now before g) (sym (append-nil got)) l;
        appends = subst (λ (xs : List ℕ). Appends first last xs) none d.logged.appends;
        cuts = inl refl;
      }
  unread_grows same l false d = record {
    cut = before;
    more = [];
    log = subst (λ (g : List ℕ). LogOf log_failed blocks now before g) (sym (append-nil got)) l;
    appends = subst (λ (s : SinkView). Appends first s []) (sym d) (appends_none first);
    cuts = inl refl;
  }

  -- one link was read
  module _ (early : Journal) (link : Link) (piece : List ℕ) (same_session : link.session ≡ n)
      (under : block_at blocks (listener_of n early) ≡ Some block) (uncut : is_cut n before ≡ false) (l : LogOf log_failed blocks early before got)
      (sooner : log_of block.options.policy (session_mode block.options) n early ≡ log_of block.options.policy (session_mode block.options) n was)
      (later : log_of block.options.policy (session_mode block.options) n now ≡ log_of block.options.policy (session_mode block.options) n (Read link piece ∷ early))
      (closes : IsSameButEnd (history block.options.policy (session_mode block.options) (events_of n (Read link piece ∷ early))) (history block.options.policy (session_mode block.options) (events_of n now)))
      (grow : (cut g : List ℕ) → LogOf log_failed blocks (Read link piece ∷ early) cut g → LogOf log_failed blocks now cut g) where
    due_is : lines_of blocks n (Read link piece) early ≡ lines_under block n (Read link piece) early
    due_is = ap (λ (o : Option Block). lines_at o n (Read link piece) early) under

    with_lines : (cut lines : List ℕ) → IsWritten log_failed n (lines_under block n (Read link piece) early) before cut lines → LogOf log_failed blocks now cut (got ++ lines)
    with_lines cut lines written = grow cut (got ++ lines) (subst (λ (k : ℕ). ReadLogs log_failed k (lines_of blocks k (Read link piece) early) (λ c g. LogOf log_failed blocks early c g) cut (got ++ lines)) (sym same_session) (record {
      before = before;
      earlier = got;
      lines = lines;
      rest = l;
      uncut = uncut;
      written = subst (λ (due : (History → History) → List ℕ). IsWritten log_failed n due before cut lines) (sym due_is) written;
      all = refl;
    }))

    logged_grows : block.options.log ≡ true → SessionLogged block n new was now first last → Grows log_failed blocks n new now before got first last
    unfolding log_of
    logged_grows e d = by_cut d.logged.cut
      where
        grown : log_of block.options.policy (session_mode block.options) n now ≡ log_of block.options.policy (session_mode block.options) n was ++ (d.logged.lines ++ d.logged.rest)
        grown = subst (λ (m : Mode). log_of block.options.policy m n now ≡ log_of block.options.policy m n was ++ (d.logged.lines ++ d.logged.rest)) d.mode d.logged.is

        -- the lines of a part of the history that come after those from before
        lines_from : (part : History → History) (lines : List ℕ) → log n (notes block.options.policy (part (history block.options.policy (session_mode block.options) (events_of n (Read link piece ∷ early)))))
            ≡ log_of block.options.policy (session_mode block.options) n was ++ lines
            → lines_under block n (Read link piece) early part ≡ lines
        lines_from part lines is =
            ap (λ (b : Bool). if b then new_in (log_of block.options.policy (session_mode block.options) n early)
            (log n (notes block.options.policy (part (history block.options.policy (session_mode block.options) (events_of n (Read link piece ∷ early)))))) else []) e
            ∙ ap (λ (xs : List ℕ). new_in (log_of block.options.policy (session_mode block.options) n early) xs) is
            ∙ ap (λ (xs : List ℕ). new_in xs (log_of block.options.policy (session_mode block.options) n was ++ lines)) sooner
            ∙ new_last (log_of block.options.policy (session_mode block.options) n was) lines

        due : lines_under block n (Read link piece) early all_items ≡ d.logged.lines ++ d.logged.rest
        due = lines_from all_items (d.logged.lines ++ d.logged.rest) (sym later ∙ grown)

        -- where memory was refused to the session they are the lines of the first items
        first_lines : HoldsFirstOf block.options.policy n d.served.session was now d.logged.lines → (done : ℕ) × (d.logged.lines ≡ lines_under block n (Read link piece) early (first_items done))
        first_lines held =
            let now_items : History = history block.options.policy (session_mode block.options) (events_of n now) in
            let read_items : History = history block.options.policy (session_mode block.options) (events_of n (Read link piece ∷ early)) in
            let within : held.done ≤ length now_items = subst (λ (m : Mode). held.done ≤ length (history block.options.policy m (events_of n now))) d.mode held.within in
            let logged : log n (notes block.options.policy (first_items held.done now_items)) ≡ log_of block.options.policy (session_mode block.options) n was ++ d.logged.lines =
            subst (λ (m : Mode). log n (notes block.options.policy (first_items held.done (history block.options.policy m (events_of n now)))) ≡ log_of block.options.policy m n was ++ d.logged.lines) d.mode held.logged in
            let c = common read_items now_items held.done 0 (omega arith) (omega arith) within closes in
            let same : notes block.options.policy (first_items held.done now_items) ≡ notes block.options.policy (first_items c.count read_items) =
            given_without_end (notes block.options.policy) (notes_ended block.options.policy) (first_items c.count read_items) (first_items held.done now_items) c.is in
            (c.count, sym (lines_from (first_items c.count) d.logged.lines (ap (log n) (sym same) ∙ logged)))

        ended : is_some d.served.session.ended ≡ true → (running : Running) → new.at n ≡ Some running → is_some running.session.ended ≡ true
        ended s running at = held_end (is_over d.served) running s (sym d.left ∙ at)
          where
            held_end : (b : Bool) (running : Running) → is_some d.served.session.ended ≡ true → (if b then None else Some d.served) ≡ Some running → is_some running.session.ended ≡ true
            held_end true running s e = cc
            held_end false running s e = let same : d.served ≡ running = cc in subst (λ (r : Running). is_some r.session.ended ≡ true) same s

        part : WhyCut block.options.policy n d.served.session was now d.logged.lines first last
            → log_failed ⊎ (done : ℕ) × (d.logged.lines ≡ lines_under block n (Read link piece) early (first_items done))
        part (inl held) = inr (first_lines held)
        part (inr rose) = inl (widen rose)

        by_cut : (d.logged.rest ≡ []) ⊎ ((is_some d.served.session.ended ≡ true) × WhyCut block.options.policy n d.served.session was now d.logged.lines first last) → Grows log_failed blocks n new now before got first last
        by_cut (inl none) = record {
          cut = before;
          more = d.logged.lines;
          log = with_lines before d.logged.lines (inl (sym (append-nil d.logged.lines) ∙ ap (λ (xs : List ℕ). d.logged.lines ++ xs) (sym none) ∙ sym due, refl));
          appends = d.logged.appends;
          cuts = inl refl;
        }
        by_cut (inr s) = record {
          cut = n ∷ before;
          more = d.logged.lines;
          log = with_lines (n ∷ before) d.logged.lines (inr (record { rest = d.logged.rest; is = sym due }, part s.1, refl));
          appends = d.logged.appends;
          cuts = inr (refl, ended s.0);
        }

    pub read_grows : (b : Bool) → block.options.log ≡ b → BlockLogs b block n new was now first last → Grows log_failed blocks n new now before got first last
    read_grows true e d = logged_grows e d
    read_grows false e d = record {
      cut = before;
      more = [];
      log = with_lines before [] (inl (
        sym (ap (λ (b : Bool). if b then new_in (log_of block.options.policy (session_mode block.options) n early)
            (log n (notes block.options.policy (history block.options.policy (session_mode block.options) (events_of n (Read link piece ∷ early))))) else []) e),
        refl,
      ));
      appends = subst (λ (s : SinkView). Appends first s []) (sym d) (appends_none first);
      cuts = inl refl;
    }
