use Rattle.std.proofs.Common.{◌≡◌, ◌≤◌, false, List, length, refl, ap, subst, ◌∙◌, arith}
use Rattle.std.specs.List.{list_any}
use Rattle.proxy_net.specs.Noting.{reports_number}
use Rattle.proxy_net.specs.Starters.{after_reports}
use Rattle.proxy_net.specs.Steps.{Steps, AreWaits}
use Rattle.proxy_net.specs.SystemCalls.{SystemCall}
use Rattle.proxy_net.specs.Sockets.{HasLink, IsTriedTo, KeepsAccepts}
use Rattle.proxy_net.specs.declared.reports.Report.{Report}
use Rattle.proxy_net.proofs.Answering.{bound_kept, consistent_goes, counted_kept, silent_none, silent_one, silent_through}
use Rattle.proxy_net.proofs.Going.{goes_through}
use Rattle.proxy_net.proofs.Retrying.{accepts_before, early_same, early_through, stalls_same, stalls_through, tried_kept}
use Rattle.proxy_net.proofs.Telling.{steps_one, steps_through, steps_weaker}
use Rattle.proxy_net.proofs.Waiting.{asked_in_vain, asked_once, noted_then, registered_after, waits_before, waits_silent}
use Rattle.proxy_net.proofs.net.MioNet.turn.Goals as goal

pub invariant_of-self : goal.invariant_of-self
invariant_of-self g c = record {
  consistent = consistent_goes c.args.self.now.sockets c.next.new.self c.next.ensures.goes c.args.self.now.consistent;
  room = c.args.self.now.room;
  counted = counted_kept c.args.self.now.counted (silent_none (g.S.Sockets.journal c.args.self.now.system)) c.next.ensures.goes.number c.next.ensures.goes.sessions;
  bound = bound_kept c.args.self.now.sockets c.next.new.self (silent_none (g.S.Sockets.journal c.args.self.now.system)) c.next.ensures.goes.number c.next.ensures.goes.files c.args.self.now.bound;
}

pub invariant_of-self-in-Err-clause-consistent : goal.invariant_of-self-in-Err-clause-consistent
invariant_of-self-in-Err-clause-consistent g c = consistent_goes c.args.self.now.sockets c.ask.new.self (goes_through c.next.ensures.goes c.ask.ensures.goes) c.args.self.now.consistent

pub invariant_of-self-in-Err-clause-counted : goal.invariant_of-self-in-Err-clause-counted
invariant_of-self-in-Err-clause-counted g c = let goes = goes_through c.next.ensures.goes c.ask.ensures.goes in counted_kept c.args.self.now.counted (silent_one c.in-Err.ensures.told.2 refl) goes.number goes.sessions

pub invariant_of-self-in-Err-clause-bound : goal.invariant_of-self-in-Err-clause-bound
invariant_of-self-in-Err-clause-bound g c = let goes = goes_through c.next.ensures.goes c.ask.ensures.goes in bound_kept c.args.self.now.sockets c.ask.new.self (silent_one c.in-Err.ensures.told.2 refl) goes.number goes.files c.args.self.now.bound

pub invariant_of-self-then-is_gone-clause-consistent : goal.invariant_of-self-then-is_gone-clause-consistent
invariant_of-self-then-is_gone-clause-consistent g c = consistent_goes c.args.self.now.sockets c.ask.new.self (goes_through c.next.ensures.goes c.ask.ensures.goes) c.args.self.now.consistent

pub invariant_of-self-then-is_gone-clause-counted : goal.invariant_of-self-then-is_gone-clause-counted
invariant_of-self-then-is_gone-clause-counted g c = let goes = goes_through c.next.ensures.goes c.ask.ensures.goes in counted_kept c.args.self.now.counted (silent_one c.in-Ok.ensures.told.2 refl) goes.number goes.sessions

pub invariant_of-self-then-is_gone-clause-bound : goal.invariant_of-self-then-is_gone-clause-bound
invariant_of-self-then-is_gone-clause-bound g c = let goes = goes_through c.next.ensures.goes c.ask.ensures.goes in bound_kept c.args.self.now.sockets c.ask.new.self (silent_one c.in-Ok.ensures.told.2 refl) goes.number goes.files c.args.self.now.bound

pub invariant_of-self-in-Ok-clause-consistent : goal.invariant_of-self-in-Ok-clause-consistent
invariant_of-self-in-Ok-clause-consistent g c = consistent_goes c.args.self.now.sockets c.note_all.new.self (goes_through c.next.ensures.goes (goes_through c.ask.ensures.goes c.note_all.ensures.goes)) c.args.self.now.consistent

pub invariant_of-self-in-Ok-clause-counted : goal.invariant_of-self-in-Ok-clause-counted
invariant_of-self-in-Ok-clause-counted g c =
    let asked = goes_through c.next.ensures.goes c.ask.ensures.goes in
    let goes = goes_through asked c.note_all.ensures.goes in
    counted_kept c.args.self.now.counted (silent_through (silent_one c.in-Ok.ensures.told.2 refl) (steps_weaker (waits_silent _ _) (c.note_all.ensures.told (registered_after c.args.self.now.sockets c.ask.new.self asked c.args.self.now.consistent.link_tokens)))) goes.number goes.sessions

pub invariant_of-self-in-Ok-clause-bound : goal.invariant_of-self-in-Ok-clause-bound
invariant_of-self-in-Ok-clause-bound g c =
    let asked = goes_through c.next.ensures.goes c.ask.ensures.goes in
    let goes = goes_through asked c.note_all.ensures.goes in
    bound_kept c.args.self.now.sockets c.note_all.new.self (silent_through (silent_one c.in-Ok.ensures.told.2 refl) (steps_weaker (waits_silent _ _) (c.note_all.ensures.told (registered_after c.args.self.now.sockets c.ask.new.self asked c.args.self.now.consistent.link_tokens)))) goes.number goes.files c.args.self.now.bound

pub returns-in-Err-clause-goes : goal.returns-in-Err-clause-goes
returns-in-Err-clause-goes g c = goes_through c.next.ensures.goes c.ask.ensures.goes

pub returns-in-Err-clause-asked : goal.returns-in-Err-clause-asked
returns-in-Err-clause-asked g c = steps_one _ c.in-Err.ensures.told.2 (asked_in_vain _ _ c.in-Err.ensures.err)

pub returns-then-is_gone-clause-goes : goal.returns-then-is_gone-clause-goes
returns-then-is_gone-clause-goes g c = goes_through c.next.ensures.goes c.ask.ensures.goes

pub returns-then-is_gone-clause-asked : goal.returns-then-is_gone-clause-asked
returns-then-is_gone-clause-asked g c =
    let same : c.after-self.result ≡ after_reports c.ask.new.reports.items c.args.self.now.starter = c.after-self.ensures.is ∙ ap (λ (reports : List Report). after_reports reports c.args.self.now.starter) c.deref.ensures.value in
    steps_one _ c.in-Ok.ensures.told.2 (asked_once c.ask.new.reports.items same)

pub returns-else-is_gone-clause-goes : goal.returns-else-is_gone-clause-goes
returns-else-is_gone-clause-goes g c = goes_through c.next.ensures.goes (goes_through c.ask.ensures.goes c.note_all.ensures.goes)

pub returns-else-is_gone-clause-tried : goal.returns-else-is_gone-clause-tried
returns-else-is_gone-clause-tried g c = λ _.
    let goes = goes_through c.next.ensures.goes c.ask.ensures.goes in
    c.note_all.ensures.tried (λ number. goes.retries number (c.args.self.now.consistent.retries number))

pub returns-else-is_gone-clause-asked : goal.returns-else-is_gone-clause-asked
returns-else-is_gone-clause-asked g c =
    let sockets = c.args.self.now.sockets in
    let goes = goes_through c.next.ensures.goes c.ask.ensures.goes in
    let same : c.after-self.result ≡ after_reports c.ask.new.reports.items c.args.self.now.starter = c.after-self.ensures.is ∙ ap (λ (reports : List Report). after_reports reports c.args.self.now.starter) c.deref.ensures.value in
    let one : Steps (λ (calls : List SystemCall). AreWaits (HasLink sockets) (IsTriedTo sockets) c.args.self.now.starter c.after-self.result false calls × (1 ≤ length calls)) (g.S.Sockets.journal c.args.self.now.system) (g.S.Sockets.journal c.ask.new.system) =
    steps_one _ c.in-Ok.ensures.told.2 (asked_once c.ask.new.reports.items same, omega arith) in
    steps_through (λ first second p q. noted_then first second p q) one (waits_before sockets c.ask.new.self goes (c.note_all.ensures.told (registered_after sockets c.ask.new.self goes c.args.self.now.consistent.link_tokens)))

pub returns-in-Some-clause-early : goal.returns-in-Some-clause-early
returns-in-Some-clause-early g c = early_same c.args.self.now.sockets c.next.new.self c.next.ensures.reports.dues

pub returns-in-Err-clause-early : goal.returns-in-Err-clause-early
returns-in-Err-clause-early g c = early_through (early_same c.args.self.now.sockets c.next.new.self c.next.ensures.reports.dues) (early_same c.next.new.self c.ask.new.self c.ask.ensures.reports.dues)

pub returns-then-is_gone-clause-early : goal.returns-then-is_gone-clause-early
returns-then-is_gone-clause-early g c = early_through (early_same c.args.self.now.sockets c.next.new.self c.next.ensures.reports.dues) (early_same c.next.new.self c.ask.new.self c.ask.ensures.reports.dues)

pub returns-else-is_gone-clause-early : goal.returns-else-is_gone-clause-early
returns-else-is_gone-clause-early g c = early_through (early_same c.args.self.now.sockets c.next.new.self c.next.ensures.reports.dues) (early_through (early_same c.next.new.self c.ask.new.self c.ask.ensures.reports.dues) c.note_all.ensures.early)

pub returns-in-Some-clause-kept : goal.returns-in-Some-clause-kept
returns-in-Some-clause-kept g c = λ _ _. tried_kept c.args.self.now.sockets c.next.new.self c.next.ensures.reports.dues c.next.ensures.stalls

pub returns-else-is_gone-clause-accepts : goal.returns-else-is_gone-clause-accepts
returns-else-is_gone-clause-accepts g c = λ _.
    let noted = subst (λ (reports : List Report). KeepsAccepts g.S.Sockets.shows (λ number. list_any (reports_number number) reports) c.ask.new.self c.note_all.new.self) c.deref-in-Ok.ensures.value c.note_all.ensures.accepts in
    accepts_before (stalls_through c.next.ensures.stalls (stalls_same c.next.new.self c.ask.new.self c.ask.ensures.listeners)) noted
