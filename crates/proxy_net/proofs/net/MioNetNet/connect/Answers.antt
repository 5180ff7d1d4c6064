use Rattle.std.proofs.Common.{inl, inr}
use Rattle.std.proofs.lemmas.Result.{on_ok_weaker}
use Rattle.link_traits.specs.Answers.{connect_entry}
use Rattle.proxy_net.proofs.Answering.{bound_kept, connect_silent, connect_makes, asked_then_told, told_as, told_one, consistent_grows, counted_same}
use Rattle.proxy_net.proofs.Telling.{steps_weaker}
use Rattle.proxy_net.proofs.net.MioNetNet.connect.Goals as goal

pub returns-clause-asked : goal.returns-clause-asked
returns-clause-asked g c = asked_then_told (connect_entry c.args.session c.args.path.now c.connect-answer.result) c.connect-answer.ensures.told (told_as (λ path. connect_entry c.args.session path c.connect-answer.result) c.as_bytes.ensures.value c.tell.ensures)

pub returns-clause-told : goal.returns-clause-told
returns-clause-told g c =
    told_one c.args.self.now.sockets c.connect-answer.new.self c.args.self.now.starter c.args.self.now.starter (connect_entry c.args.session c.args.path.now c.connect-answer.result)
    (steps_weaker (connect_silent _ _ _ c.connect-answer.result) c.connect-answer.ensures.told) (told_as (λ path. connect_entry c.args.session path c.connect-answer.result) c.as_bytes.ensures.value c.tell.ensures) c.connect-answer.ensures.grows.each

pub invariant_of-self : goal.invariant_of-self
invariant_of-self g c = record {
  consistent = consistent_grows c.args.self.now.sockets c.connect-answer.new.self c.connect-answer.ensures.grows c.args.self.now.consistent;
  room = c.args.self.now.room;
  counted = counted_same (connect_entry c.args.session c.args.path.now c.connect-answer.result) c.args.self.now.counted
      (steps_weaker (connect_silent _ _ _ c.connect-answer.result) c.connect-answer.ensures.told) (told_as (λ path. connect_entry c.args.session path c.connect-answer.result) c.as_bytes.ensures.value c.tell.ensures)
      (connect_makes c.args.session c.args.path.now c.connect-answer.result) c.connect-answer.ensures.number c.connect-answer.ensures.sessions;
  bound = bound_kept c.args.self.now.sockets c.connect-answer.new.self (asked_then_told (connect_entry c.args.session c.args.path.now c.connect-answer.result) c.connect-answer.ensures.told (told_as (λ path. connect_entry c.args.session path c.connect-answer.result) c.as_bytes.ensures.value c.tell.ensures)) c.connect-answer.ensures.number c.connect-answer.ensures.grows.files c.args.self.now.bound;
}

pub returns-clause-made : goal.returns-clause-made
returns-clause-made g c =
    on_ok_weaker c.connect-answer.result (λ made. asked_then_told (connect_entry c.args.session c.args.path.now c.connect-answer.result) made (told_as (λ path. connect_entry c.args.session path c.connect-answer.result) c.as_bytes.ensures.value c.tell.ensures)) c.connect-answer.ensures.made

pub returns-clause-unmade : goal.returns-clause-unmade
returns-clause-unmade g c = λ failed. elim (c.connect-answer.ensures.unmade failed) [
  | inl blind ↦ inl blind
  | inr asked ↦ inr (asked_then_told (connect_entry c.args.session c.args.path.now c.connect-answer.result) asked (told_as (λ path. connect_entry c.args.session path c.connect-answer.result) c.as_bytes.ensures.value c.tell.ensures))
]
