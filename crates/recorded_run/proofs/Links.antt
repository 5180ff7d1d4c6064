-- What was written to links, by the history of recorded events.
use Rattle.std.proofs.Common.{ℕ, ◌≡◌, ◌⊎◌, inl, inr, false, List, [], ◌++◌, Some, All, unwrap_or, slice_get, ap, sym, ◌∙◌, subst, get_or}
use Rattle.std.proofs.lemmas.Option.{slice_get_within, unwrap_or-slice_get}
use Rattle.link_traits.specs.Journals.{Journal, written}
use Rattle.link_traits.specs.Answers.{client_link, bus_link}
use Rattle.policy_args.specs.declared.line.Block.{Block}
use Rattle.policy_args.specs.declared.options.Options.{Options}
use Rattle.policy_view.specs.Outputs.{bus_bytes, client_bytes}
use Rattle.policy_view.specs.Past.{History}
use Rattle.proxy_core.specs.Sessions.{IsFront}
use Rattle.proxy_loop.specs.Tables.{session_mode}
use Rattle.proxy_loop.specs.Servers.{Fresh, StandsUnder, LinksStand, WithoutSessions}
use Rattle.recording.specs.Sessions.{SessionEvent}
use Rattle.record_net.specs.Sessions.{items_of}
use Rattle.recorded_run.specs.Events.{is_refused}
use Rattle.recorded_run.specs.Recordings.{StandsRecorded, StandsRecordedUnder, TellsHistories}
use Rattle.recorded_run.specs.Runs.{LinksRecorded, LinksReplayed}
use Rattle.recorded_run.proofs.Histories.{untold}

module _ (histories : (was since : Journal) → WithoutSessions was → TellsHistories was since) (blocks : List Block) (was since : Journal) (none : WithoutSessions was) (n : ℕ)
    (connected : is_refused n since ≡ false) where
  stands_recorded : (s : StandsUnder blocks n (since ++ was)) → StandsRecorded s.block.options n (items_of since) (since ++ was)
  stands_recorded s =
      let options : Options = s.block.options in
      let told = (histories was since none n connected).1 options.policy (session_mode options) in record {
        bus = subst (λ (h : History). IsFront (written (bus_link n) (since ++ was)) (bus_bytes options.policy h)) (sym told) s.bus;
        client = subst (λ (h : History). IsFront (written (client_link n) (since ++ was)) (client_bytes options.policy h)) (sym told) s.client;
      }

  recorded_under : Fresh n (since ++ was) ⊎ StandsUnder blocks n (since ++ was) → Fresh n (since ++ was) ⊎ StandsRecordedUnder blocks n (items_of since) (since ++ was)
  recorded_under (inl fresh) = inl fresh
  recorded_under (inr s) = inr (record { listener = s.listener; accepted = s.accepted; block = s.block; at = s.at; stands = stands_recorded s })

pub links_recorded : ((was since : Journal) → WithoutSessions was → TellsHistories was since) →
    (blocks : List Block) (was since : Journal) → LinksStand blocks (since ++ was) → LinksRecorded blocks was since
links_recorded histories blocks was since stands none n connected = recorded_under histories blocks was since none n connected (stands.each n)

-- ---- under the options of all blocks

at_all : (P : Block → Type 0) (blocks : List Block) (k : ℕ) (block : Block) → All P blocks → slice_get blocks k ≡ Some block → P block
at_all P blocks k block all at =
    let is : get_or blocks k block ≡ block = sym (unwrap_or-slice_get blocks k block) ∙ ap (λ o. unwrap_or o block) at in
    subst P is (all k block (slice_get_within blocks k block at))

-- nothing is a prefix of any bytes
nothing_first : (bytes whole : List ℕ) → bytes ≡ [] → IsFront bytes whole
nothing_first bytes whole e = record { rest = whole; is = ap (λ (l : List ℕ). l ++ whole) e }

replayed_as : (options : Options) (blocks : List Block) (n : ℕ) (events : List SessionEvent) (journal : Journal) → All (λ block. block.options ≡ options) blocks →
    Fresh n journal ⊎ StandsRecordedUnder blocks n events journal → StandsRecorded options n events journal
replayed_as options blocks n events journal all (inl fresh) =
    let silent = untold n journal fresh in
    record { bus = nothing_first (written (bus_link n) journal) _ silent.bus; client = nothing_first (written (client_link n) journal) _ silent.client }
replayed_as options blocks n events journal all (inr s) =
    subst (λ (o : Options). StandsRecorded o n events journal) (at_all (λ block. block.options ≡ options) blocks s.listener s.block all s.at) s.stands

pub links_replayed : ((was since : Journal) → WithoutSessions was → TellsHistories was since) →
    (blocks : List Block) (was since : Journal) → LinksStand blocks (since ++ was) → LinksReplayed blocks was since
links_replayed histories blocks was since stands none options all n connected =
    replayed_as options blocks n (items_of since) (since ++ was) all (links_recorded histories blocks was since stands none n connected)
