use Rattle.proxy_loop.proofs.Served.{serving_runs}
use Rattle.proxy_loop.proofs.serving.serve.Goals as goal

pub returns-clause-serving : goal.returns-clause-serving
returns-clause-serving g c =
    serving_runs c.args.policy.now c.args.log c.args.side c.args.running.now c.write_both.new.running c.read_and_log.new.running c.write_both-2.new.running c.shut_both.new.running
    (g.N.Net.view c.args.net.now) (g.N.Net.view c.write_both.new.net) (g.N.Net.view c.read_and_log.new.net) (g.N.Net.view c.write_both-2.new.net)
    (g.N.Net.view c.shut_both.new.net) (g.N.Net.view c.wish_both.new.net) (g.S.Sink.view c.args.sink.now) (g.S.Sink.view c.read_and_log.new.sink)
    c.write_both.ensures.place c.read_and_log.ensures.place c.write_both-2.ensures.place c.write_both.ensures.shut c.read_and_log.ensures.shut c.write_both-2.ensures.shut
    c.write_both.ensures.goes c.read_and_log.ensures.reads c.write_both-2.ensures.goes c.shut_both.ensures.goes c.wish_both.ensures.told
    c.shut_both.ensures.session c.shut_both.ensures.client_gone c.shut_both.ensures.bus_gone c.shut_both.ensures.client_shut c.shut_both.ensures.bus_shut
    c.requires.sound c.write_both-2.ensures.sound c.requires.log c.requires.stood c.write_both.ensures.end c.write_both-2.ensures.end
