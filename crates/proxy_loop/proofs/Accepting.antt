-- A new session is connected.
use Rattle.std.proofs.Common.{ℕ, ◌≡◌, Some, None, Bool, true, false, ◌&&◌, ◌||◌, not, List, [], ◌∷◌, ◌++◌, Ok, Err, refl, ap, ap₂, ◌∙◌, sym, subst, inl}
use Rattle.link_traits.specs.Journals.{Journal, same_link}
use Rattle.link_traits.specs.Views.{NetView, Adds, RoseAt}
use Rattle.link_traits.specs.Answers.{client_link, bus_link}
use Rattle.link_traits.specs.Entries.{Entry, connected as Connected, failed as Failed, refused as Refused}
use Rattle.link_traits.specs.declared.links.Count.TheVariants.{Link as OfLink}
use Rattle.link_traits.specs.declared.links.Link.{Link}
use Rattle.link_traits.specs.declared.links.NetFault.TheVariants.{Failed as FaultFailed, Memory as FaultMemory}
use Rattle.link_traits.specs.declared.links.Call.TheVariants.{Connect as ConnectCall}
use Rattle.policy_args.specs.Policy.{Policy}
use Rattle.policy_view.specs.declared.End.{End}
use Rattle.policy_view.specs.declared.End.TheVariants.{BusConnect, Memory}
use Rattle.policy_view.specs.History.{Stopped}
use Rattle.proxy_core.specs.Sessions.{SessionView}
use Rattle.proxy_loop.specs.declared.serving.Running.{Running}
use Rattle.proxy_loop.specs.Kinds.{some_of, gone_by}
use Rattle.proxy_loop.specs.Works.{Goes, Any, ShutBoth}
use Rattle.proxy_loop.specs.Turns.{OneConnect, Opened}
use Rattle.proxy_loop.proofs.Holding.{goes_one, goes_then, moves_none, moves_quiet, moves_event, stop_cause, stopped_mode, same_end, same_number, same_link_self, Stops, some_append}
use Rattle.proxy_loop.proofs.Served.{shuts_gone}

one_gone : (link : Link) (entry : Entry) (gone : Bool) → gone_by link entry ≡ gone → some_of (gone_by link) (entry ∷ []) ≡ gone
unfolding some_of
one_gone link entry true e = rw e refl
one_gone link entry false e = rw e refl

client_stays : (n : ℕ) → same_link (client_link n) (bus_link n) ≡ false
client_stays n = rw (same_number n) refl

pub connected_goes : (n : ℕ) (address : List ℕ) (gone : Bool) (session : SessionView) (before after : NetView) → gone ≡ false → session.ended ≡ None →
    Adds before after (Connected n address ∷ []) → Goes Any n session session before after (OneConnect n address session.ended gone)
connected_goes n address gone session before after e runs adds =
    goes_one Any n session session before after (OneConnect n address session.ended gone) (Connected n address) adds
    (record { answer = Ok tt; is = refl; end = runs; client_gone = one_gone (client_link n) (Connected n address) false refl; bus_gone = one_gone (bus_link n) (Connected n address) false refl ∙ sym e })
    (λ policy u. moves_quiet policy n session (Connected n address) refl refl refl)
    (λ end e. e) (λ policy u s end e. inl e) refl

-- A session that stops before anything else ended it has the End that it was stopped with.
first_end : (old new : SessionView) (own result : End) → old.ended ≡ None → Stops old new own result → new.ended ≡ Some own
first_end old new own result runs stops = ap (λ (s : SessionView). s.ended) stops.answer ∙ ap (λ (x : End). Some x) (stops.first runs)

pub unconnected_goes : (n : ℕ) (address : List ℕ) (old new : SessionView) (result : End) (before after : NetView) →
    Adds before after (Failed (ConnectCall n) ∷ []) → RoseAt (OfLink (bus_link n)) before after → old.ended ≡ None → Stops old new BusConnect result →
    Goes Any n old new before after (OneConnect n address new.ended true)
unconnected_goes n address old new result before after adds rose runs stops =
    goes_one Any n old new before after (OneConnect n address new.ended true) (Failed (ConnectCall n)) adds
    (record {
      answer = Err FaultFailed;
      is = refl;
      end = first_end old new BusConnect result runs stops;
      client_gone = one_gone (client_link n) (Failed (ConnectCall n)) false (client_stays n);
      bus_gone = one_gone (bus_link n) (Failed (ConnectCall n)) true (same_link_self (bus_link n));
    })
    (λ policy u. moves_event policy n old new (Failed (ConnectCall n)) (Stopped BusConnect) refl refl (rw (same_number n) refl) (stops.stands policy))
    (λ end e. same_end old new result end stops.answer stops.last e)
    (λ policy u s end e. stop_cause n old new BusConnect result before after stops rose end e) (stopped_mode old new result stops.answer)

pub refused_goes : (n : ℕ) (address : List ℕ) (gone : Bool) (old new : SessionView) (result : End) (before after : NetView) → gone ≡ false → old.ended ≡ None →
    Adds before after (Refused (ConnectCall n) ∷ []) → Stops old new Memory result →
    Goes Any n old new before after (OneConnect n address new.ended gone)
refused_goes n address gone old new result before after e runs adds stops =
    goes_one Any n old new before after (OneConnect n address new.ended gone) (Refused (ConnectCall n)) adds
    (record {
      answer = Err FaultMemory;
      is = refl;
      end = first_end old new Memory result runs stops;
      client_gone = one_gone (client_link n) (Refused (ConnectCall n)) false refl;
      bus_gone = one_gone (bus_link n) (Refused (ConnectCall n)) false refl ∙ sym e;
    })
    (λ policy u. moves_event policy n old new (Refused (ConnectCall n)) (Stopped Memory) refl refl (rw (same_number n) refl) (stops.stands policy))
    (λ end e. same_end old new result end stops.answer stops.last e)
    (λ policy u s end e. stop_cause n old new Memory result before after stops tt end e) (stopped_mode old new result stops.answer)

goes_quiet : (under : Policy → Type 0) (n : ℕ) (session : SessionView) (before after : NetView) → Adds before after [] →
    Goes under n session session before after (λ added. added ≡ [])
goes_quiet under n session before after adds = record {
  told = λ last e. let a = adds.told last e in (a.0, a.1, [], a.2, refl, λ policy u. moves_none policy n session);
  counts = adds.counts;
  stood = λ policy u s. s;
  end = λ end e. e;
  cause = λ policy u s end e. inl e;
  mode = refl;
}

module _ (n : ℕ) (address : List ℕ) (r1 r2 : Running) (s0 : SessionView) (v0 v1 v2 v3 : NetView)
    (client_open : r1.client.shut ≡ false) (bus_open : r1.bus.shut ≡ false) (client_here : r1.client.gone ≡ false)
    (client_gone : r2.client.gone ≡ r1.client.gone) (bus_gone : r2.bus.gone ≡ r1.bus.gone) (same : r2.session ≡ r1.session) where
  opened : (first shuts : Journal) → OneConnect n address r1.session.ended r1.bus.gone first →
      ShutBoth n (not r1.client.shut && r2.client.shut) (not r1.bus.shut && r2.bus.shut) shuts → Opened n address r2 (shuts ++ first)
  opened first shuts o s =
      let now : ShutBoth n r2.client.shut r2.bus.shut shuts =
      subst (λ (x : Bool). ShutBoth n (not x && r2.client.shut) r2.bus.shut shuts) client_open
      (subst (λ (x : Bool). ShutBoth n (not r1.client.shut && r2.client.shut) (not x && r2.bus.shut) shuts) bus_open s) in
      record {
        answer = o.answer;
        shuts = shuts;
        is = ap (λ (j : Journal). shuts ++ j) o.is;
        end = ap (λ (s : SessionView). s.ended) same ∙ o.end;
        shut = now;
        client_gone = client_gone ∙ client_here
            ∙ sym (some_append (gone_by (client_link n)) shuts first
            ∙ ap₂ (λ (x y : Bool). x || y) (shuts_gone n (client_link n) r2.client.shut r2.bus.shut shuts now) o.client_gone);
        bus_gone = bus_gone
            ∙ sym (some_append (gone_by (bus_link n)) shuts first
            ∙ ap₂ (λ (x y : Bool). x || y) (shuts_gone n (bus_link n) r2.client.shut r2.bus.shut shuts now) o.bus_gone);
      }

  pub opened_goes : (m : ℕ) → m ≡ n → Goes Any n s0 r1.session v0 v1 (OneConnect n address r1.session.ended r1.bus.gone) →
      Goes Any m r1.session r1.session v1 v2 (ShutBoth m (not r1.client.shut && r2.client.shut) (not r1.bus.shut && r2.bus.shut)) → Adds v2 v3 [] →
      Goes Any n s0 r2.session v0 v3 (Opened n address r2)
  opened_goes m e a b adds =
      subst (λ (s : SessionView). Goes Any n s0 s v0 v3 (Opened n address r2)) (sym same)
      (goes_then Any n s0 r1.session r1.session v0 v2 v3 (Opened n address r2) (λ added. added ≡ []) (Opened n address r2)
      (λ first second p q. rw q p)
      (goes_then Any n s0 r1.session r1.session v0 v1 v2 (OneConnect n address r1.session.ended r1.bus.gone)
      (ShutBoth n (not r1.client.shut && r2.client.shut) (not r1.bus.shut && r2.bus.shut)) (Opened n address r2) opened a
      (subst (λ (k : ℕ). Goes Any k r1.session r1.session v1 v2 (ShutBoth k (not r1.client.shut && r2.client.shut) (not r1.bus.shut && r2.bus.shut))) e b))
      (goes_quiet Any n r1.session v2 v3 adds))
