use Rattle.sample.proofs.Counting.{all_left, both_ok}
use Rattle.sample.proofs.playing.Play.count_waiting.Goals as goal

pub returns : goal.returns
returns c = λ policy events counted.
    both_ok c.count_client.result
    (c.count_client.ensures.counted policy events (c.in_ok-count_bus.ensures.counted policy events (c.in_ok-count_notes.ensures.counted policy events counted)))
    c.count_client.ensures.left
    (λ all left. all_left policy events c.args.self.now c.count_notes.new.self c.count_bus.new.self c.count_client.new.self c.in_ok-count_notes.ensures.left c.in_ok-count_bus.ensures.left
    left all)
