-- A turn makes no listener.
use Rattle.std.proofs.Common.{ℕ, ◌≡◌, Bool, true, false, List, [], ◌∷◌, ◌++◌, Option, Some, None, Result, Ok, Err, refl, ap, ◌∙◌, sym, subst, append-nil, slice_get, string_bytes}
use Rattle.link_traits.specs.Journals.{Journal}
use Rattle.link_traits.specs.Views.{NetView, Adds, SinkView}
use Rattle.link_traits.specs.Answers.{accept_entry}
use Rattle.link_traits.specs.Entries.{Entry, listened as Listened, ready as ReadyEntry, accepted as AcceptedEntry, connected as Connected, read as Read, finished as Finished, wrote as Wrote, not_ready as NotReady, failed as Failed, refused as Refused, shut as Shut}
use Rattle.link_traits.specs.declared.links.Accepted.{Accepted}
use Rattle.link_traits.specs.declared.links.Accepted.TheVariants.{New, NotReady as AcceptNotReady, Failed as AcceptFailed, Memory as AcceptMemory}
use Rattle.link_traits.specs.declared.links.Link.{Link}
use Rattle.link_traits.specs.declared.links.Ready.{Ready}
use Rattle.link_traits.specs.declared.links.Ready.TheVariants.{Listener, Link as ReadyLink, Quiet, Failed as ReadyFailed}
use Rattle.policy_args.specs.declared.line.Block.{Block}
use Rattle.proxy_loop.specs.declared.serving.Running.{Running}
use Rattle.proxy_loop.specs.declared.turns.Turn.{Turn}
use Rattle.proxy_loop.specs.declared.turns.ServerEnd.{ServerEnd}
use Rattle.proxy_loop.specs.declared.turns.ServerEnd.TheVariants.{Listen, Wait, Memory}
use Rattle.proxy_loop.specs.Kinds.{about, all_are}
use Rattle.proxy_loop.specs.Listening.{listener_by, listeners_of, HearsNoMore}
use Rattle.proxy_loop.specs.Tables.{Table}
use Rattle.proxy_loop.specs.Turns.{Still, LinkDid, ListenerDid, Brought, ReadyDid, AfterWait, TurnDid}
use Rattle.proxy_loop.proofs.Others.{served_about}
use Rattle.proxy_loop.proofs.Stopping.{and_first, and_second}
use Rattle.proxy_loop.proofs.TurnLaws.{opened_about}

-- an entry about a session tells of no listener
about_none : (n : ℕ) (entry : Entry) → about n entry ≡ true → listener_by entry ≡ []
about_none n (Listened listener path) h = cc
about_none n (ReadyEntry answer) h = refl
about_none n (AcceptedEntry listener session) h = refl
about_none n (Connected session path) h = refl
about_none n (Read at bytes) h = refl
about_none n (Finished at) h = refl
about_none n (Wrote at bytes) h = refl
about_none n (NotReady call) h = refl
about_none n (Failed call) h = refl
about_none n (Refused call) h = refl
about_none n (Shut at) h = refl

about_unheard : (n : ℕ) (added was : Journal) → all_are (about n) added ≡ true → listeners_of (added ++ was) ≡ listeners_of was
unfolding all_are listeners_of
about_unheard n [] was h = refl
about_unheard n (entry ∷ added) was h =
    rw (about_none n entry (and_first (about n entry) (all_are (about n) added) h), append-nil (listeners_of (added ++ was)))
    (about_unheard n added was (and_second (about n entry) (all_are (about n) added) h))

pub unheard_same : (before after : NetView) → after ≡ before → HearsNoMore before after
unheard_same before after e = record { each = λ now h. (now, ap (λ (v : NetView). v.journal) (sym e) ∙ h, refl) }

pub unheard_then : (before between after : NetView) → HearsNoMore before between → HearsNoMore between after → HearsNoMore before after
unheard_then before between after a b = record { each = λ now e. let y = b.each now e in let x = a.each y.0 y.1 in (x.0, x.1, y.2 ∙ x.2) }

-- one entry that tells of no listener
pub unheard_one : (before after : NetView) (entry : Entry) → listener_by entry ≡ [] → Adds before after (entry ∷ []) → HearsNoMore before after
unfolding listeners_of
unheard_one before after entry none adds = record {
  each = λ now e.
      let a = adds.told now e in
      (a.0, a.1, ap listeners_of a.2 ∙ ap (λ (l : List (ℕ × List ℕ)). listeners_of a.0 ++ l) none ∙ append-nil (listeners_of a.0));
}

ready_none : (ready : Ready) → listener_by (ReadyEntry ready) ≡ []
ready_none ready = refl

accept_none : (listener : ℕ) (answer : Accepted) → listener_by (accept_entry listener answer) ≡ []
accept_none listener (New n) = refl
accept_none listener AcceptNotReady = refl
accept_none listener AcceptFailed = refl
accept_none listener AcceptMemory = refl

still_unheard : (old new : Table) (before after : NetView) (first last : SinkView) → Still old new before after first last → HearsNoMore before after
still_unheard old new before after first last d = unheard_same before after d.net

brought_unheard : (blocks : List Block) (listener : ℕ) (address : List ℕ) (answer : Accepted) (old new : Table) (before after : NetView) →
    Brought blocks listener address answer old new before after → HearsNoMore before after
brought_unheard blocks listener address (New n) old new before after d = record {
  each = λ now e.
      let t = d.goes.told now e in
      (t.0, t.1, ap listeners_of t.3 ∙ about_unheard n t.2 t.0 (opened_about n address d.running t.2 t.4));
}
brought_unheard blocks listener address AcceptNotReady old new before after d = unheard_same before after d.1
brought_unheard blocks listener address AcceptFailed old new before after d = unheard_same before after d.1
brought_unheard blocks listener address AcceptMemory old new before after d = unheard_same before after d.1

listener_unheard : (blocks : List Block) (room : Bool) (listener : ℕ) (block : Option Block) (old new : Table) (before after : NetView) (first last : SinkView) →
    ListenerDid room blocks listener block old new before after first last → HearsNoMore before after
listener_unheard blocks true listener (Some block) old new before after first last d =
    unheard_then before d.0.between after (unheard_one before d.0.between (accept_entry listener d.0.answer) (accept_none listener d.0.answer) d.0.adds)
    (brought_unheard blocks listener (string_bytes block.address) d.0.answer old new d.0.between after d.0.brings)
listener_unheard blocks true listener None old new before after first last d = still_unheard old new before after first last d
listener_unheard blocks false listener block old new before after first last d = still_unheard old new before after first last d

link_unheard : (blocks : List Block) (link : Link) (at : Option Running) (old new : Table) (before after : NetView) (first last : SinkView) →
    LinkDid blocks link at old new before after first last → HearsNoMore before after
link_unheard blocks link None old new before after first last d = still_unheard old new before after first last d
link_unheard blocks link (Some running) old new before after first last d = record {
  each = λ now e.
      let t = d.served.serving.told now e in
      (t.0, t.1, ap listeners_of t.3 ∙ about_unheard running.number t.2 t.0 (served_about running.number link.side running d.now t.2 t.4));
}

ready_unheard : (blocks : List Block) (limit : ℕ) (ready : Ready) (old new : Table) (before after : NetView) (first last : SinkView) →
    ReadyDid blocks limit ready old new before after first last → HearsNoMore before after
ready_unheard blocks limit (Listener listener) old new before after first last d = listener_unheard blocks _ listener (slice_get blocks listener) old new before after first last d
ready_unheard blocks limit (ReadyLink link) old new before after first last d = link_unheard blocks link (old.at link.session) old new before after first last d
ready_unheard blocks limit Quiet old new before after first last d = still_unheard old new before after first last d
ready_unheard blocks limit ReadyFailed old new before after first last d = still_unheard old new before after first last d

after_unheard : (blocks : List Block) (limit : ℕ) (ready : Ready) (old new : Table) (before after : NetView) (first last : SinkView) (answer : Result Turn ServerEnd) →
    AfterWait blocks limit ready old new before after first last answer → HearsNoMore before after
after_unheard blocks limit ready old new before after first last (Err Memory) d = still_unheard old new before after first last d.0
after_unheard blocks limit ready old new before after first last (Err Wait) d = ready_unheard blocks limit ready old new before after first last d.0
after_unheard blocks limit ready old new before after first last (Err (Listen k)) d = absurd d
after_unheard blocks limit ready old new before after first last (Ok turn) d = ready_unheard blocks limit ready old new before after first last d.0

pub turn_unheard : (blocks : List Block) (limit : ℕ) (old new : Table) (before after : NetView) (first last : SinkView) (answer : Result Turn ServerEnd) →
    TurnDid blocks limit old new before after first last answer → HearsNoMore before after
turn_unheard blocks limit old new before after first last answer d =
    unheard_then before d.between after (unheard_one before d.between (ReadyEntry d.ready) (ready_none d.ready) d.waited)
    (after_unheard blocks limit d.ready old new d.between after first last answer d.does)
