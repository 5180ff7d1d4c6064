-- What follows for the links of sessions that serve a journal, and for a server that has served nothing.
use Rattle.std.proofs.Common.{ℕ, ◌≡◌, ◌⊎◌, inl, inr, List, [], ◌++◌, Option, Some, None, Result, Ok, Err, refl, ap, ◌∙◌, sym, subst, append-nil, length, nat_eq, slice_get, true, false}
use Rattle.std.specs.Global.{Box}
use Rattle.std.specs.Map.{lookup}
use Rattle.std.specs.Option.{option_map}
use Rattle.link_traits.specs.Journals.{Journal, written}
use Rattle.link_traits.specs.Views.{NetView, RoseAt}
use Rattle.link_traits.specs.Answers.{client_link, bus_link}
use Rattle.link_traits.specs.Entries.{failed as Failed, refused as Refused}
use Rattle.link_traits.specs.declared.links.Count.TheVariants.{Own as OfNet}
use Rattle.link_traits.specs.declared.links.Call.TheVariants.{Listen as ListenCall}
use Rattle.policy_args.specs.declared.line.Block.{Block}
use Rattle.policy_view.specs.declared.Mode.{Mode}
use Rattle.policy_view.specs.History.{first_items, history}
use Rattle.policy_view.specs.Past.{History}
use Rattle.policy_view.specs.Outputs.{bus_bytes, client_bytes}
use Rattle.proxy_core.specs.Sessions.{IsFront, is_memory}
use Rattle.proxy_loop.specs.declared.serving.Running.{Running}
use Rattle.proxy_loop.specs.declared.table.Sessions.{Sessions}
use Rattle.proxy_loop.specs.declared.turns.ServerEnd.{ServerEnd}
use Rattle.proxy_loop.specs.declared.turns.ServerEnd.TheVariants.{Listen, Wait, Memory}
use Rattle.proxy_loop.specs.Sessions.{events_of}
use Rattle.proxy_loop.specs.Listening.{ListenDid}
use Rattle.proxy_loop.specs.Tables.{Table, session_mode, table_of, IsEmpty, SoundTable, AllWished}
use Rattle.proxy_loop.specs.Servers.{Fresh, Held, Stays, Serves, GoesOn, StandsUnder, LinksStand, LinksHold, QueuesStand, WithoutSessions, items_under}
use Rattle.proxy_loop.proofs.Holding.{rose_sooner}
use Rattle.proxy_loop.proofs.Prefixes.{bus_prefix, client_prefix, bus_exact, client_exact}
use Rattle.proxy_loop.proofs.NewSession.{same_block}
use Rattle.proxy_loop.proofs.Refused.{held_first}
use Rattle.proxy_loop.proofs.TurnLaws.{on_then, quiet_on}
use Rattle.proxy_loop.proofs.Hearing.{heard_on}

-- ---- the links

stands_under : (blocks : List Block) (n : ℕ) (running : Running) (journal : Journal) → Held blocks n running journal → StandsUnder blocks n journal
stands_under blocks n running journal h = record {
  listener = running.block;
  accepted = h.listener;
  block = h.block;
  at = h.at;
  bus = subst (λ (m : Mode). IsFront (written (bus_link n) journal) (bus_bytes h.block.options.policy (history h.block.options.policy m (events_of n journal)))) h.mode
      (bus_prefix h.block.options.policy n running.session journal h.holds);
  client = subst (λ (m : Mode). IsFront (written (client_link n) journal) (client_bytes h.block.options.policy (history h.block.options.policy m (events_of n journal)))) h.mode
      (client_prefix h.block.options.policy n running.session journal h.holds);
}

number_stands : (blocks : List Block) (n : ℕ) (at : Option Running) (journal : Journal) → Stays blocks n at journal → Fresh n journal ⊎ StandsUnder blocks n journal
number_stands blocks n None journal (inl f) = inl f
number_stands blocks n None journal (inr o) = inr (stands_under blocks n o.running journal o.held)
number_stands blocks n (Some running) journal h = inr (stands_under blocks n running journal h)

pub links_stand : (blocks : List Block) (table : Table) (journal : Journal) → Serves blocks table journal → LinksStand blocks journal
links_stand blocks table journal s = record { each = λ n. number_stands blocks n (table.at n) journal (s.each n) }

module _ (blocks : List Block) (table : Table) (journal : Journal) (s : Serves blocks table journal) where
  held_at : (n : ℕ) (running : Running) → table.at n ≡ Some running → Held blocks n running journal
  held_at n running at = subst (λ (o : Option Running). Stays blocks n o journal) at (s.each n)

  -- under its block, which is that of its number
  under : (n : ℕ) (running : Running) (block : Block) (h : Held blocks n running journal) → slice_get blocks running.block ≡ Some block → (items : History → History)
      → LinksHold h.block.options.policy n running.session journal (items (history h.block.options.policy running.session.mode (events_of n journal)))
      → LinksHold block.options.policy n running.session journal (items (items_under block n journal))
  under n running block h is items links =
      subst (λ (b : Block). LinksHold b.options.policy n running.session journal (items (items_under b n journal))) (same_block blocks running.block h.block block h.at is)
      (subst (λ (m : Mode). LinksHold h.block.options.policy n running.session journal (items (history h.block.options.policy m (events_of n journal)))) h.mode links)

  all_stand : (n : ℕ) (running : Running) (block : Block) → table.at n ≡ Some running → slice_get blocks running.block ≡ Some block → is_memory running.session.ended ≡ false →
      LinksHold block.options.policy n running.session journal (items_under block n journal)
  all_stand n running block at is e =
      let h : Held blocks n running journal = held_at n running at in
      under n running block h is (λ items. items) (record { bus = bus_exact h.block.options.policy n running.session journal e h.holds; client = client_exact h.block.options.policy n running.session journal e h.holds })

  first_stand : (n : ℕ) (running : Running) (block : Block) → table.at n ≡ Some running → slice_get blocks running.block ≡ Some block → is_memory running.session.ended ≡ true →
      (done : ℕ) × LinksHold block.options.policy n running.session journal (first_items done (items_under block n journal))
  first_stand n running block at is e =
      let h : Held blocks n running journal = held_at n running at in
      let f = held_first h.block.options.policy n running.session journal h.holds.put h.holds.events h.holds.notes [] h.holds.told (history h.block.options.policy running.session.mode h.holds.events, sym (append-nil _)) refl h.holds.stands e in
      (f.done, under n running block h is (first_items f.done) (record { bus = f.bus; client = f.client }))

  pub queues_stand : QueuesStand blocks table journal
  queues_stand = record { whole = all_stand; refused = first_stand }

-- ---- a server that has served nothing

pub new_empty : (sessions : Sessions) → sessions.running.entries ≡ [] → sessions.accepted ≡ 0 → IsEmpty (table_of sessions)
new_empty sessions none accepted = record {
  at = λ k. ap (λ (es : List (ℕ × Box Running)). option_map (λ (b : Box Running). b.value) (lookup (nat_eq k) es)) none;
  accepted = accepted;
  left = ap (λ (es : List (ℕ × Box Running)). length es) none;
}

pub empty_serves : (blocks : List Block) (table : Table) (journal : Journal) → IsEmpty table → WithoutSessions journal → Serves blocks table journal
empty_serves blocks table journal e w = record {
  each = λ n. subst (λ (o : Option Running). Stays blocks n o journal) (sym (e.at n)) (inl (w.fresh n));
  counted = e.accepted ∙ sym w.accepted;
}

pub empty_wished : (table : Table) (net : NetView) → IsEmpty table → AllWished table.at net
empty_wished table net e = record { each = λ n r is. let none : None ≡ Some r = sym (e.at n) ∙ is in cc }

pub empty_sound : (blocks : List Block) (table : Table) → IsEmpty table → SoundTable blocks table.at
empty_sound blocks table e = record {
  each = λ n r is. let none : None ≡ Some r = sym (e.at n) ∙ is in cc;
  number = λ n r is. let none : None ≡ Some r = sym (e.at n) ∙ is in cc;
  runs = λ n r is. let none : None ≡ Some r = sym (e.at n) ∙ is in cc;
}

-- ---- listening

pub listen_on : (blocks : List Block) (table : Table) (before after : NetView) (answer : Result (Unit {0}) ServerEnd) → ListenDid blocks before after answer → GoesOn blocks table table before after
listen_on blocks table before after (Ok done) h = heard_on blocks table (length blocks) before after h
listen_on blocks table before after (Err (Listen k)) h =
    on_then blocks table table table before h.0 after (heard_on blocks table k before h.0 h.2) (quiet_on blocks table (Failed ListenCall) h.0 after (λ n. refl) refl h.3)
listen_on blocks table before after (Err Memory) h =
    on_then blocks table table table before h.0 after (heard_on blocks table h.1 before h.0 h.3) (quiet_on blocks table (Refused ListenCall) h.0 after (λ n. refl) refl h.4)
listen_on blocks table before after (Err Wait) h = absurd h

pub listen_rose : (blocks : List Block) (before after : NetView) (answer : Result (Unit {0}) ServerEnd) (k : ℕ) → answer ≡ Err (Listen k) → ListenDid blocks before after answer → RoseAt OfNet before after
listen_rose blocks before after (Ok done) k e h = cc
listen_rose blocks before after (Err (Listen i)) k e h = rose_sooner (before.counts OfNet) (h.0.counts OfNet) (after.counts OfNet) (h.2.counts OfNet) h.4
listen_rose blocks before after (Err Memory) k e h = cc
listen_rose blocks before after (Err Wait) k e h = absurd h
