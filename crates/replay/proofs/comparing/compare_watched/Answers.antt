use Rattle.std.proofs.Common.{◌+◌, [], refl, subst}
use Rattle.std.proofs.lemmas.Bool.{false≢true}
use Rattle.recording.specs.Seen.{recording_seen}
use Rattle.replay.specs.Twins.{ComparesEnds}
use Rattle.replay.proofs.Twins.{both-differ, both-end, both-next}
use Rattle.replay.proofs.comparing.compare_watched.Goals as goal

pub loop-same-init : goal.loop-same-init
loop-same-init c = record { given = []; count = refl; of_one = c.requires.one; of_other = c.requires.other }

pub returns-then-not-are_same : goal.returns-then-not-are_same
returns-then-not-are_same c =
    let both = c.loop-same.invariant in
    both-differ c.args.policy.now (recording_seen c.args.one.now) (recording_seen c.args.other.now) c.next_element.new.self c.next_element-in-loop-same.new.self both.given c.loop-same.same
    c.in_ok-element.element c.in_ok-against.against c.bytes_only_grow.ensures c.elements_tell_the_part.ensures c.parts_differ_as_given.ensures both.count
    (c.in_ok-element.ensures both.given both.of_one) (c.in_ok-against.ensures both.given both.of_other) (λ same. false≢true (c.if-not-are_same.ensures.1 same))

pub returns-then-is_none : goal.returns-then-is_none
returns-then-is_none c =
    let both = c.loop-same.invariant in
    both-end c.args.policy.now (recording_seen c.args.one.now) (recording_seen c.args.other.now) c.next_element.new.self c.next_element-in-loop-same.new.self both.given c.loop-same.same
    c.in_ok-element.element c.in_ok-against.against c.compare_ends.result c.parts_differ_as_given.ensures both.count
    (c.in_ok-element.ensures both.given both.of_one) (c.in_ok-against.ensures both.given both.of_other) (c.if-not-are_same.ensures.0 refl) c.if-is_none.ensures
    (subst (λ end. ComparesEnds c.next_element.new.self.session.ended end (c.loop-same.same + 1) c.compare_ends.result) c.ended-then-is_none.ensures
    (subst (λ end. ComparesEnds end c.ended-then-is_none.result (c.loop-same.same + 1) c.compare_ends.result) c.ended.ensures c.compare_ends.ensures))

pub loop-same-preserved : goal.loop-same-preserved
loop-same-preserved c =
    let both = c.loop-same.invariant in
    both-next c.args.policy.now (recording_seen c.args.one.now) (recording_seen c.args.other.now) c.next_element.new.self c.next_element-in-loop-same.new.self both.given c.loop-same.same
    c.in_ok-element.element c.in_ok-against.against both.count
    (c.in_ok-element.ensures both.given both.of_one) (c.in_ok-against.ensures both.given both.of_other) (c.if-not-are_same.ensures.0 refl) c.if-is_none.ensures
