use Rattle.std.proofs.Common.{arith, vec_len}
use Rattle.std.proofs.lemmas.Result.{on_ok_weaker}
use Rattle.link_traits.specs.Answers.{listen_entry}
use Rattle.proxy_net.proofs.Answering.{bound_more, listen_silent, listen_makes, asked_then_told, told_as, told_one, consistent_grows, counted_one, listener_numbered}
use Rattle.proxy_net.proofs.Telling.{steps_weaker}
use Rattle.proxy_net.proofs.net.MioNetNet.listen.Goals as goal

pub returns-clause-asked : goal.returns-clause-asked
returns-clause-asked g c = asked_then_told (listen_entry c.args.path.now c.listen-answer.result) c.listen-answer.ensures.told (told_as (λ path. listen_entry path c.listen-answer.result) c.as_bytes.ensures.value c.tell.ensures)

pub returns-clause-told : goal.returns-clause-told
returns-clause-told g c =
    told_one c.args.self.now.sockets c.listen-answer.new.self c.args.self.now.starter c.args.self.now.starter (listen_entry c.args.path.now c.listen-answer.result)
    (steps_weaker (listen_silent _ _ _ c.listen-answer.result) c.listen-answer.ensures.told) (told_as (λ path. listen_entry path c.listen-answer.result) c.as_bytes.ensures.value c.tell.ensures) c.listen-answer.ensures.grows.each

pub returns-clause-numbered : goal.returns-clause-numbered
returns-clause-numbered g c = listener_numbered (g.S.Sockets.journal c.args.self.now.system) c.listen-answer.result c.args.self.now.counted c.listen-answer.ensures.numbered

pub invariant_of-self : goal.invariant_of-self
invariant_of-self g c =
    let makes = listen_makes c.args.path.now c.listen-answer.result (vec_len c.args.self.now.sockets.listeners) (vec_len c.listen-answer.new.self.listeners) c.listen-answer.ensures.made c.listen-answer.ensures.err in
    record {
      consistent = consistent_grows c.args.self.now.sockets c.listen-answer.new.self c.listen-answer.ensures.grows c.args.self.now.consistent;
      room = c.args.self.now.room;
      counted = counted_one (listen_entry c.args.path.now c.listen-answer.result) c.args.self.now.counted
          (steps_weaker (listen_silent _ _ _ c.listen-answer.result) c.listen-answer.ensures.told) (told_as (λ path. listen_entry path c.listen-answer.result) c.as_bytes.ensures.value c.tell.ensures)
          makes.0 (omega (arith, makes.1, c.listen-answer.ensures.sessions));
      bound = bound_more c.args.self.now.sockets c.listen-answer.new.self _ c.args.path.now _ c.listen-answer.result (asked_then_told (listen_entry c.args.path.now c.listen-answer.result) c.listen-answer.ensures.told (told_as (λ path. listen_entry path c.listen-answer.result) c.as_bytes.ensures.value c.tell.ensures)) c.listen-answer.ensures.made c.listen-answer.ensures.err c.listen-answer.ensures.file c.listen-answer.ensures.grows.files c.args.self.now.bound;
    }

pub returns-clause-kept : goal.returns-clause-kept
returns-clause-kept g c =
    on_ok_weaker c.listen-answer.result (λ kept. asked_then_told (listen_entry c.args.path.now c.listen-answer.result) kept (told_as (λ path. listen_entry path c.listen-answer.result) c.as_bytes.ensures.value c.tell.ensures)) c.listen-answer.ensures.kept
