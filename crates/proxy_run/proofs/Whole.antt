-- What holds of a whole run.
use Rattle.std.proofs.Common.{ℕ, ◌≡◌, ◌≤◌, inl, inr, List, Some, None, Ok, Err, refl, ap, sym, ◌∙◌, arith, subst}
use Rattle.link_traits.specs.Journals.{Journal}
use Rattle.link_traits.specs.Views.{NetView, RoseAt, SinkView}
use Rattle.link_traits.specs.declared.links.Count.TheVariants.{Own as OfNet}
use Rattle.policy_args.specs.declared.line.Block.{Block}
use Rattle.proxy_loop.specs.declared.turns.ServerEnd.TheVariants.{Listen, Wait, Memory}
use Rattle.proxy_loop.specs.Listening.{ListenDid, listeners_of}
use Rattle.proxy_loop.specs.Tables.{Table, IsEmpty}
use Rattle.proxy_loop.specs.Servers.{GoesOn, Serves, WithoutSessions}
use Rattle.proxy_loop.proofs.Holding.{rose_sooner}
use Rattle.proxy_loop.proofs.TurnLaws.{on_then, wait_rose}
use Rattle.proxy_loop.proofs.LinkFronts.{links_stand, empty_serves, listen_on, listen_rose}
use Rattle.proxy_run.specs.Runs.{RunEnd, LastTurn, TurnsEnd, AfterListen, RunDid, RunLinks, most_turns}
use Rattle.proxy_run.proofs.Counts.{turn_counts, turns_counts}
use Rattle.proxy_run.proofs.Chains.{ended_on}
use Rattle.proxy_run.proofs.Listeners.{run_heard}

-- no session
unfoldable pub no_sessions : Table
no_sessions = record { at = λ n. None; accepted = 0; left = 0 }

pub none_empty : IsEmpty no_sessions
unfolding no_sessions
none_empty = record { at = λ k. refl; accepted = refl; left = refl }

-- ---- the links

-- sessions serve the journal at the end, if it was without sessions at the start
pub record RunServes (blocks : List Block) (before after : NetView) : Type 0 where
  pub each : (now : Journal) → after.journal ≡ Some now → (was : Journal) × (before.journal ≡ Some was) × (WithoutSessions was → (table : Table) × Serves blocks table now)

serves_from : (blocks : List Block) (old new : Table) (before after : NetView) → IsEmpty old → GoesOn blocks old new before after → RunServes blocks before after
serves_from blocks old new before after empty on = record {
  each = λ now e. let g = on.each now e in (g.0, g.1, λ w. (new, g.4 (empty_serves blocks old g.0 empty w)));
}

after_listen : (blocks : List Block) (limit : ℕ) (heard end : RunEnd) (v0 v1 v2 : NetView) (l0 l2 : SinkView) → ListenDid blocks v0 v1 heard → AfterListen blocks limit heard v1 v2 l0 l2 end → RunServes blocks v0 v2
after_listen blocks limit (Ok done) end v0 v1 v2 l0 l2 h a =
    serves_from blocks a.old a.new v0 v2 a.empty (on_then blocks a.old a.old a.new v0 v1 v2 (listen_on blocks a.old v0 v1 (Ok done) h) (ended_on blocks limit a.old a.new v1 v2 l0 l2 end a.ended))
after_listen blocks limit (Err refused) end v0 v1 v2 l0 l2 h a =
    serves_from blocks no_sessions no_sessions v0 v2 none_empty (subst (λ (v : NetView). GoesOn blocks no_sessions no_sessions v0 v) (sym a.0) (listen_on blocks no_sessions v0 v1 (Err refused) h))

pub run_serves : (blocks : List Block) (limit : ℕ) (v0 v2 : NetView) (l0 l2 : SinkView) (end : RunEnd) → RunDid blocks limit v0 v2 l0 l2 end → RunServes blocks v0 v2
run_serves blocks limit v0 v2 l0 l2 end (inl d) = after_listen blocks limit d.heard end v0 d.between v2 l0 l2 d.listened d.rest
run_serves blocks limit v0 v2 l0 l2 end (inr d) = record {
  each = λ now e. (now, subst (λ (v : NetView). v.journal ≡ Some now) d.net e, λ w. (no_sessions, empty_serves blocks no_sessions now none_empty w));
}

pub run_links : (blocks : List Block) (limit : ℕ) (v0 v2 : NetView) (l0 l2 : SinkView) (end : RunEnd) → RunDid blocks limit v0 v2 l0 l2 end → RunLinks blocks v0 v2
run_links blocks limit v0 v2 l0 l2 end d = record {
  each = λ now e.
      let s = (run_serves blocks limit v0 v2 l0 l2 end d).each now e in
      let h = (run_heard blocks limit v0 v2 l0 l2 end d).each now e in
      let same : h.0 ≡ s.0 = let both : Some h.0 ≡ Some s.0 = sym h.1 ∙ s.1 in cc in
      (s.0, s.1, λ w. links_stand blocks (s.2 w).0 now (s.2 w).1, λ w. h.2 (ap listeners_of same ∙ w));
}

-- ---- the counts

last_counts : (blocks : List Block) (limit : ℕ) (old new : Table) (v0 v1 : NetView) (l0 l1 : SinkView) (end : RunEnd) → TurnsEnd blocks limit old new v0 v1 l0 l1 end → l0.faults ≤ l1.faults
last_counts blocks limit old new v0 v1 l0 l1 (Ok done) (inl t) =
    let p : l0.faults ≤ t.so_far.faults = (turns_counts blocks limit t.count old t.mid v0 t.between l0 t.so_far t.turns).log in
    let q : t.so_far.faults ≤ l1.faults = (turn_counts blocks limit t.mid new t.between v1 t.so_far l1 _ t.turn.did).log in omega arith
last_counts blocks limit old new v0 v1 l0 l1 (Ok done) (inr t) = (turns_counts blocks limit most_turns old new v0 v1 l0 l1 t).log
last_counts blocks limit old new v0 v1 l0 l1 (Err end) t =
    let p : l0.faults ≤ t.so_far.faults = (turns_counts blocks limit t.count old t.mid v0 t.between l0 t.so_far t.turns).log in
    let q : t.so_far.faults ≤ l1.faults = (turn_counts blocks limit t.mid new t.between v1 t.so_far l1 _ t.turn.did).log in omega arith

rest_counts : (blocks : List Block) (limit : ℕ) (heard end : RunEnd) (v1 v2 : NetView) (l0 l2 : SinkView) → AfterListen blocks limit heard v1 v2 l0 l2 end → l0.faults ≤ l2.faults
rest_counts blocks limit (Ok done) end v1 v2 l0 l2 a = last_counts blocks limit a.old a.new v1 v2 l0 l2 end a.ended
rest_counts blocks limit (Err refused) end v1 v2 l0 l2 a = rw a.1 (omega arith)

pub run_counts : (blocks : List Block) (limit : ℕ) (v0 v2 : NetView) (l0 l2 : SinkView) (end : RunEnd) → RunDid blocks limit v0 v2 l0 l2 end → l0.faults ≤ l2.faults
run_counts blocks limit v0 v2 l0 l2 end (inl d) = rest_counts blocks limit d.heard end d.between v2 l0 l2 d.rest
run_counts blocks limit v0 v2 l0 l2 end (inr d) = rw d.log (omega arith)

-- ---- where listening or waiting failed

last_wait : (blocks : List Block) (limit : ℕ) (old new : Table) (v0 v1 : NetView) (l0 l1 : SinkView) → LastTurn blocks limit old new v0 v1 l0 l1 (Err Wait) → RoseAt OfNet v0 v1
last_wait blocks limit old new v0 v1 l0 l1 t =
    rose_sooner (v0.counts OfNet) (t.between.counts OfNet) (v1.counts OfNet)
    ((turns_counts blocks limit t.count old t.mid v0 t.between l0 t.so_far t.turns).net OfNet)
    (wait_rose blocks limit t.mid new t.between v1 t.so_far l1 (Err Wait) refl t.turn.did)

rest_wait : (blocks : List Block) (limit : ℕ) (heard : RunEnd) (v0 v1 v2 : NetView) (l0 l2 : SinkView) → ListenDid blocks v0 v1 heard → AfterListen blocks limit heard v1 v2 l0 l2 (Err Wait) → RoseAt OfNet v0 v2
rest_wait blocks limit (Ok done) v0 v1 v2 l0 l2 h a =
    rose_sooner (v0.counts OfNet) (v1.counts OfNet) (v2.counts OfNet) (h.counts OfNet) (last_wait blocks limit a.old a.new v1 v2 l0 l2 a.ended)
rest_wait blocks limit (Err Wait) v0 v1 v2 l0 l2 h a = absurd h
rest_wait blocks limit (Err (Listen k)) v0 v1 v2 l0 l2 h a = let e = a.2 in cc
rest_wait blocks limit (Err Memory) v0 v1 v2 l0 l2 h a = let e = a.2 in cc

pub run_wait : (blocks : List Block) (limit : ℕ) (v0 v2 : NetView) (l0 l2 : SinkView) (end : RunEnd) → end ≡ Err Wait → RunDid blocks limit v0 v2 l0 l2 end → RoseAt OfNet v0 v2
run_wait blocks limit v0 v2 l0 l2 end e (inl d) =
    rest_wait blocks limit d.heard v0 d.between v2 l0 l2 d.listened (subst (λ (r : RunEnd). AfterListen blocks limit d.heard d.between v2 l0 l2 r) e d.rest)
run_wait blocks limit v0 v2 l0 l2 end e (inr d) = let x : Err Memory ≡ Err Wait = sym d.answer ∙ e in cc

rest_listen : (blocks : List Block) (limit k : ℕ) (heard : RunEnd) (v0 v1 v2 : NetView) (l0 l2 : SinkView) → ListenDid blocks v0 v1 heard → AfterListen blocks limit heard v1 v2 l0 l2 (Err (Listen k)) → RoseAt OfNet v0 v2
rest_listen blocks limit k (Ok done) v0 v1 v2 l0 l2 h a = absurd a.ended.turn.did.does
rest_listen blocks limit k (Err refused) v0 v1 v2 l0 l2 h a =
    subst (λ (v : NetView). RoseAt OfNet v0 v) (sym a.0) (listen_rose blocks v0 v1 (Err refused) k (sym a.2) h)

pub run_listen : (blocks : List Block) (limit k : ℕ) (v0 v2 : NetView) (l0 l2 : SinkView) (end : RunEnd) → end ≡ Err (Listen k) → RunDid blocks limit v0 v2 l0 l2 end → RoseAt OfNet v0 v2
run_listen blocks limit k v0 v2 l0 l2 end e (inl d) =
    rest_listen blocks limit k d.heard v0 d.between v2 l0 l2 d.listened (subst (λ (r : RunEnd). AfterListen blocks limit d.heard d.between v2 l0 l2 r) e d.rest)
run_listen blocks limit k v0 v2 l0 l2 end e (inr d) = let x : Err Memory ≡ Err (Listen k) = sym d.answer ∙ e in cc
