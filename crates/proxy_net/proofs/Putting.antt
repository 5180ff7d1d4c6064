-- Reports that are put one after the other.
use Rattle.std.proofs.Common.{◌≡◌, ◌+◌, ◌<◌, List, [], ◌∷◌, ◌++◌, map, length, refl, ap, arith}
use Rattle.mio.specs.declared.event.event.Event.{Event}
use Rattle.proxy_net.specs.declared.reports.Report.{Report}

module _ (f : Event → Report) where
  length_put : (put : List Report) (events : List Event) → length (put ++ map f events) ≡ length put + length events
  length_put [] [] = refl
  length_put [] (event ∷ events) = let rest = length_put [] events in omega (arith, rest)
  length_put (report ∷ put) events = let rest = length_put put events in omega (arith, rest)

  -- there is room for one more
  pub one_fits : (put : List Report) (event : Event) (rest all : List Event) → put ++ map f (event ∷ rest) ≡ map f all → length put < length all
  one_fits put event rest all are =
      let same = ap length are in let here = length_put put (event ∷ rest) in let there = length_put [] all in omega (arith, same, here, there)

  -- one more is put
  pub put_more : (put : List Report) (event : Event) (rest : List Event) → (put ++ f event ∷ []) ++ map f rest ≡ put ++ map f (event ∷ rest)
  put_more [] event rest = refl
  put_more (report ∷ put) event rest = ap (λ (xs : List Report). report ∷ xs) (put_more put event rest)
