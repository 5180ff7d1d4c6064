-- A session that was accepted takes its place.
use Rattle.std.proofs.Common.{ℕ, nat_eq, ◌≡◌, ◌+◌, ◌<◌, ◌⊎◌, inl, inr, false, cond, List, [], ◌∷◌, length, Option, Some, None, ap, ap₂, ◌∙◌, sym, subst, slice_get, slice_index_or, string_bytes}
use Rattle.link_traits.specs.Journals.{Journal, accepts}
use Rattle.link_traits.specs.Views.{NetView, Adds}
use Rattle.link_traits.specs.Answers.{accept_entry, AfterAccept, client_link, bus_link}
use Rattle.link_traits.specs.declared.links.Accepted.TheVariants.{New}
use Rattle.link_traits.specs.declared.links.Side.TheVariants.{Client, Bus}
use Rattle.policy_args.specs.declared.line.Block.{Block}
use Rattle.policy_view.specs.declared.End.{End}
use Rattle.proxy_core.specs.Sessions.{SessionView, StandsFor, nothing}
use Rattle.proxy_loop.specs.declared.serving.Running.{Running}
use Rattle.proxy_loop.specs.Works.{Any, Cause, Goes, shuts_now, wishes_of}
use Rattle.proxy_loop.specs.Runs.{Sound, KeepsSessions}
use Rattle.proxy_loop.specs.Tables.{At, Table, Sets, unless_over, session_mode}
use Rattle.proxy_loop.specs.Turns.{Opened, AcceptDid}
use Rattle.proxy_loop.proofs.Tabled.{there_is}

pub same_block : (blocks : List Block) (k : ℕ) (a b : Block) → slice_get blocks k ≡ Some a → slice_get blocks k ≡ Some b → a ≡ b
same_block blocks k a b x y = let t : Some a ≡ Some b = sym x ∙ y in cc

-- a new session has no End but one of its connect
new_cause : (n : ℕ) (own : Block) (session : SessionView) (running : Running) (v1 v2 : NetView) (address : List ℕ) → StandsFor own.options.policy session [] nothing → session.ended ≡ None →
    Goes Any n session running.session v1 v2 (Opened n address running) → (end : End) → running.session.ended ≡ Some end → Cause n end v1 v2
new_cause n own session running v1 v2 address fresh runs goes end e =
    by (goes.cause own.options.policy tt ∣ record { events = []; taken = nothing; stands = fresh } ∣₁ end e)
  where
    by : (session.ended ≡ Some end) ⊎ Cause n end v1 v2 → Cause n end v1 v2
    by (inl s) = let f : None ≡ Some end = sym runs ∙ s in cc
    by (inr c) = c

pub accepted_did : (blocks : List Block) (listener : ℕ) (own block : Block) (n : ℕ) (old new : Table) (reserved : At) (v0 v1 v2 : NetView) (session : SessionView) (running : Running) (address : List ℕ) →
    listener < length blocks → own ≡ slice_index_or blocks listener own → slice_get blocks listener ≡ Some block → address ≡ string_bytes own.address →
    Adds v0 v1 (accept_entry listener (New n) ∷ []) → ((was : Journal) → v0.journal ≡ Some was → n ≡ accepts was + 1) → AfterAccept (New n) v0 v1 →
    StandsFor own.options.policy session [] nothing → session.ended ≡ None → session.mode ≡ session_mode own.options →
    Goes Any n session running.session v1 v2 (Opened n address running) → running.number ≡ n → running.block ≡ listener → Sound running →
    running.client.shut ≡ shuts_now Client running.session running.client.gone → running.bus.shut ≡ shuts_now Bus running.session running.bus.gone →
    (running.client.shut ≡ false → v2.wishes (client_link n) ≡ Some (wishes_of Client running.session)) →
    (running.bus.shut ≡ false → v2.wishes (bus_link n) ≡ Some (wishes_of Bus running.session)) →
    KeepsSessions n v1 v2 → ((k : ℕ) → reserved k ≡ old.at k) → Sets running.number (unless_over running) reserved new.at → new.accepted ≡ old.accepted + 1 →
    AcceptDid blocks listener (string_bytes block.address) old new v0 v2
accepted_did blocks listener own block n old new reserved v0 v1 v2 session running address room is at address_is adds counted wishes fresh runs mode goes number place sound client_shut bus_shut client_wishes bus_wishes others same sets accepted =
    let here : slice_get blocks listener ≡ Some own = there_is blocks listener own room is in
    let block_is : own ≡ block = same_block blocks listener own block here at in
    let own_is : (b : Block) → slice_get blocks running.block ≡ Some b → own ≡ b = λ b e. same_block blocks listener own b here (ap (slice_get blocks) (sym place) ∙ e) in
    let to : address ≡ string_bytes block.address = address_is ∙ ap (λ (b : Block). string_bytes b.address) block_is in
    record {
      answer = New n;
      between = v1;
      adds = adds;
      numbered = λ s e was w. let t : n ≡ s = cc in sym t ∙ counted was w;
      failed = λ e. cc;
      wishes = wishes;
      brings = record {
        session = session;
        fresh = λ b e. subst (λ (x : Block). StandsFor x.options.policy session [] nothing) (same_block blocks listener own b here e) fresh;
        runs = runs;
        running = running;
        cause = λ end e. new_cause n own session running v1 v2 address fresh runs goes end e;
        goes = subst (λ (l : List ℕ). Goes Any n session running.session v1 v2 (Opened n l running)) to goes;
        number = number;
        block = place;
        sound = record {
          sound = sound;
          block = rw place room;
          mode = λ b e. goes.mode ∙ mode ∙ ap (λ (x : Block). session_mode x.options) (own_is b e);
          stood = λ b e. goes.stood b.options.policy tt ∣ record { events = []; taken = nothing; stands = subst (λ (x : Block). StandsFor x.options.policy session [] nothing) (own_is b e) fresh } ∣₁;
        };
        client_shut = client_shut;
        bus_shut = bus_shut;
        client_wishes = client_wishes;
        bus_wishes = bus_wishes;
        others = others;
        sets = record { each = λ k. sets.each k ∙ ap₂ (λ (m : ℕ) (o : Option Running). cond (nat_eq m k) (unless_over running) o) number (same k) };
        accepted = accepted;
      };
    }
