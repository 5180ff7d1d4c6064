-- The listeners of a run are those of its blocks.
use Rattle.std.proofs.Common.{ℕ, zero, suc, ◌≡◌, ◌+◌, inl, inr, map, take, length, List, [], ◌∷◌, ◌++◌, Some, Result, Ok, Err, refl, ap, ◌∙◌, sym, subst, append-nil, append_assoc, arith}
use Rattle.link_traits.specs.Journals.{Journal, listens}
use Rattle.link_traits.specs.Views.{NetView, Adds, SinkView}
use Rattle.link_traits.specs.Entries.{Entry, listened as Listened, ready as Ready, accepted as Accepted, connected as Connected, read as Read, finished as Finished, wrote as Wrote, not_ready as NotReady, failed as Failed, refused as Refused, shut as Shut}
use Rattle.policy_args.specs.declared.line.Block.{Block}
use Rattle.proxy_core.specs.Sessions.{IsFront}
use Rattle.proxy_loop.specs.declared.turns.ServerEnd.TheVariants.{Listen, Wait, Memory}
use Rattle.proxy_loop.specs.Listening.{listener_by, listeners_of, numbered_from, path_at, Heard, HearsNoMore, ListenDid, ListensForBlocks}
use Rattle.proxy_loop.specs.Tables.{Table}
use Rattle.proxy_loop.proofs.Unheard.{turn_unheard, unheard_one, unheard_same, unheard_then}
use Rattle.proxy_run.specs.Runs.{RunEnd, Turns, LastTurn, TurnsEnd, AfterListen, RunDid, most_turns}

-- ---- turns

turns_unheard : (blocks : List Block) (limit count : ℕ) (old new : Table) (before after : NetView) (first last : SinkView) →
    Turns blocks limit count old new before after first last → HearsNoMore before after
turns_unheard blocks limit zero old new before after first last t = unheard_same before after t.1
turns_unheard blocks limit (suc count) old new before after first last t =
    unheard_then before t.1 after (turns_unheard blocks limit count old t.0 before t.1 first t.2 t.3) (turn_unheard blocks limit t.0 new t.1 after t.2 last _ t.4.did)

last_unheard : (blocks : List Block) (limit : ℕ) (old new : Table) (before after : NetView) (first last : SinkView) (answer : _) →
    LastTurn blocks limit old new before after first last answer → HearsNoMore before after
last_unheard blocks limit old new before after first last answer t =
    unheard_then before t.between after (turns_unheard blocks limit t.count old t.mid before t.between first t.so_far t.turns)
    (turn_unheard blocks limit t.mid new t.between after t.so_far last answer t.turn.did)

ended_unheard : (blocks : List Block) (limit : ℕ) (old new : Table) (before after : NetView) (first last : SinkView) (end : RunEnd) →
    TurnsEnd blocks limit old new before after first last end → HearsNoMore before after
ended_unheard blocks limit old new before after first last (Ok done) (inl t) = last_unheard blocks limit old new before after first last _ t
ended_unheard blocks limit old new before after first last (Ok done) (inr t) = turns_unheard blocks limit most_turns old new before after first last t
ended_unheard blocks limit old new before after first last (Err end) t = last_unheard blocks limit old new before after first last _ t

rest_unheard : (blocks : List Block) (limit : ℕ) (heard end : RunEnd) (before after : NetView) (first last : SinkView) →
    AfterListen blocks limit heard before after first last end → HearsNoMore before after
rest_unheard blocks limit (Ok done) end before after first last a = ended_unheard blocks limit a.old a.new before after first last end a.ended
rest_unheard blocks limit (Err refused) end before after first last a = unheard_same before after a.0

-- ---- listening

listeners_append : (added was : Journal) → listeners_of (added ++ was) ≡ listeners_of was ++ listeners_of added
unfolding listeners_of
listeners_append [] was = sym (append-nil (listeners_of was))
listeners_append (entry ∷ added) was =
    ap (λ (l : List (ℕ × List ℕ)). l ++ listener_by entry) (listeners_append added was) ∙ append_assoc (listeners_of was) (listeners_of added) (listener_by entry)

no_more : (xs : List (ℕ × List ℕ)) (x : ℕ × List ℕ) → xs ++ x ∷ [] ≡ [] → ⊥
no_more [] x e = absurd cc
no_more (y ∷ ys) x e = absurd cc

so_far : (journal : Journal) → listens journal ≡ 0 → listens journal + 0 ≡ 0
so_far journal h = omega (arith, h)

none_listened : (journal : Journal) → listeners_of journal ≡ [] → listens journal ≡ 0
unfolding listeners_of
none_listened [] e = refl
none_listened (Listened listener path ∷ before) e = absurd (no_more (listeners_of before) (listener, path) e)
none_listened (Ready answer ∷ before) e = so_far before (none_listened before (sym (append-nil (listeners_of before)) ∙ e))
none_listened (Accepted listener session ∷ before) e = so_far before (none_listened before (sym (append-nil (listeners_of before)) ∙ e))
none_listened (Connected session path ∷ before) e = so_far before (none_listened before (sym (append-nil (listeners_of before)) ∙ e))
none_listened (Read at bytes ∷ before) e = so_far before (none_listened before (sym (append-nil (listeners_of before)) ∙ e))
none_listened (Finished at ∷ before) e = so_far before (none_listened before (sym (append-nil (listeners_of before)) ∙ e))
none_listened (Wrote at bytes ∷ before) e = so_far before (none_listened before (sym (append-nil (listeners_of before)) ∙ e))
none_listened (NotReady call ∷ before) e = so_far before (none_listened before (sym (append-nil (listeners_of before)) ∙ e))
none_listened (Failed call ∷ before) e = so_far before (none_listened before (sym (append-nil (listeners_of before)) ∙ e))
none_listened (Refused call ∷ before) e = so_far before (none_listened before (sym (append-nil (listeners_of before)) ∙ e))
none_listened (Shut at ∷ before) e = so_far before (none_listened before (sym (append-nil (listeners_of before)) ∙ e))

first_numbered : (n count : ℕ) (blocks : List Block) → IsFront (numbered_from n (map path_at (take count blocks))) (numbered_from n (map path_at blocks))
first_numbered n count [] = record { rest = []; is = by count }
  where
    by : (k : ℕ) → numbered_from n (map path_at (take k [])) ++ [] ≡ []
    by zero = refl
    by (suc k) = refl
first_numbered n zero (block ∷ blocks) = record { rest = numbered_from n (map path_at (block ∷ blocks)); is = refl }
first_numbered n (suc count) (block ∷ blocks) =
    let later = first_numbered (n + 1) count blocks in record { rest = later.rest; is = ap (λ (l : List (ℕ × List ℕ)). (n, path_at block) ∷ l) later.is }

-- if no listener was made before, those that were made are the first blocks'
pub record HeardBlocks (blocks : List Block) (before after : NetView) : Type 0 where
  pub each : (now : Journal) → after.journal ≡ Some now → (was : Journal) × (before.journal ≡ Some was) × (listeners_of was ≡ [] → ListensForBlocks blocks now)

heard_then : (blocks : List Block) (before between after : NetView) → HeardBlocks blocks before between → HearsNoMore between after → HeardBlocks blocks before after
heard_then blocks before between after a b = record {
  each = λ now e.
      let y = b.each now e in
      let x = a.each y.0 y.1 in
      (x.0, x.1, λ w. subst (λ (l : List (ℕ × List ℕ)). IsFront l (numbered_from 0 (map path_at blocks))) (sym y.2) (x.2 w));
}

heard_blocks : (blocks : List Block) (count : ℕ) (before after : NetView) → Heard blocks count before after → HeardBlocks blocks before after
heard_blocks blocks count before after h = record {
  each = λ now e.
      let t = h.told now e in (
        t.0,
        t.1,
        λ w. let are : listeners_of now ≡ numbered_from 0 (map path_at (take count blocks)) =
            ap listeners_of t.3 ∙ listeners_append t.2 t.0 ∙ ap (λ (l : List (ℕ × List ℕ)). l ++ listeners_of t.2) w ∙ t.5
            ∙ ap (λ (k : ℕ). numbered_from k (map path_at (take count blocks))) (none_listened t.0 w) in
            subst (λ (l : List (ℕ × List ℕ)). IsFront l (numbered_from 0 (map path_at blocks))) (sym are) (first_numbered 0 count blocks),
      );
}

listen_heard : (blocks : List Block) (before after : NetView) (answer : RunEnd) → ListenDid blocks before after answer → HeardBlocks blocks before after
listen_heard blocks before after (Ok done) h = heard_blocks blocks (length blocks) before after h
listen_heard blocks before after (Err (Listen k)) h =
    heard_then blocks before h.0 after (heard_blocks blocks k before h.0 h.2) (unheard_one h.0 after _ refl h.3)
listen_heard blocks before after (Err Memory) h =
    heard_then blocks before h.0 after (heard_blocks blocks h.1 before h.0 h.3) (unheard_one h.0 after _ refl h.4)
listen_heard blocks before after (Err Wait) h = absurd h

-- ---- the run

none_heard : (blocks : List Block) (net : NetView) → HeardBlocks blocks net net
none_heard blocks net = record { each = λ now e. (now, e, λ w. record { rest = numbered_from 0 (map path_at blocks); is = ap (λ (l : List (ℕ × List ℕ)). l ++ numbered_from 0 (map path_at blocks)) w }) }

pub run_heard : (blocks : List Block) (limit : ℕ) (before after : NetView) (first last : SinkView) (end : RunEnd) → RunDid blocks limit before after first last end → HeardBlocks blocks before after
run_heard blocks limit before after first last end (inl d) =
    heard_then blocks before d.between after (listen_heard blocks before d.between d.heard d.listened) (rest_unheard blocks limit d.heard end d.between after first last d.rest)
run_heard blocks limit before after first last end (inr d) = subst (λ (v : NetView). HeardBlocks blocks before v) (sym d.net) (none_heard blocks before)
