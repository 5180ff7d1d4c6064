use Rattle.std.proofs.Common.{◌≡◌, ℕ, arith, refl, ap, Err, sym, subst}
use Rattle.proxy_loop.specs.Listening.{Heard}
use Rattle.proxy_loop.proofs.Hearing.{heard_none, heard_more}
use Rattle.proxy_loop.proofs.listening.listen.Goals as goal

pub loop-block-init : goal.loop-block-init
loop-block-init g c = record { heard = heard_none c.args.blocks.now (g.N.Net.view c.args.net.now); counted = refl }

pub loop-block-preserved : goal.loop-block-preserved
loop-block-preserved g c = record {
  heard = heard_more c.args.blocks.now c.loop-block.block-index c.block-item.result _ c.deref.result.now
      (g.N.Net.view c.args.net.now) (g.N.Net.view c.loop-block.net) (g.N.Net.view c.listen.new.self)
      c.loop-block-test.true c.block-item.is c.deref.ensures c.loop-block.invariant.heard c.in-Ok.ensures.told c.in-Ok.ensures.numbered;
  counted = omega (arith, c.loop-block.invariant.counted);
}

pub returns-in-Err-Failed : goal.returns-in-Err-Failed
returns-in-Err-Failed g c =
    let same : c.loop-block.count ≡ c.loop-block.block-index = c.loop-block.invariant.counted in
    record {
      did = (
        g.N.Net.view c.loop-block.net,
        omega (arith, same, c.loop-block-test.true),
        subst (λ (k : ℕ). Heard c.args.blocks.now k (g.N.Net.view c.args.net.now) (g.N.Net.view c.loop-block.net)) (sym same) c.loop-block.invariant.heard,
        rw c.in-Err-Failed.field-0-is at c.in-Err-Failed.ensures.told,
        c.in-Err-Failed.ensures.failed (ap (λ e. Err e) c.in-Err-Failed.field-0-is),
      );
    }

pub returns-in-Err-Memory : goal.returns-in-Err-Memory
returns-in-Err-Memory g c = record {
  did = (
    g.N.Net.view c.loop-block.net,
    c.loop-block.block-index,
    c.loop-block-test.true,
    c.loop-block.invariant.heard,
    rw c.in-Err-Memory.field-0-is at c.in-Err-Memory.ensures.told,
  );
}
