-- The code's targets in order, as they are seen.
use Rattle.std.proofs.Common.{◌≡◌, ◌||◌, List, [], ◌∷◌, map, refl, ap, ap₂, ◌∙◌}
use Rattle.std.specs.BTreeSet.{insert_key}
use Rattle.std.specs.List.{list_any}
use Rattle.std.specs.Ordering.{is_eq, match_ordering}
use Rattle.std.specs.declared.cmp.Ordering.{Ordering}
use Rattle.std.specs.declared.cmp.Ordering.TheVariants.{Less, Equal, Greater}
use Rattle.policy_suggest.specs.Seen.{has, target_seen}
use Rattle.policy_suggest.specs.Suggest.{compare}
use Rattle.policy_suggest.specs.declared.targets.Target.{Target as TargetRead}

module _ (order : TargetRead → TargetRead → Ordering) (same : (a b : TargetRead) → order a b ≡ compare (target_seen a) (target_seen b)) where
  pub seen-insert : (ks : List TargetRead) (t : TargetRead) → map target_seen (insert_key order ks t) ≡ insert_key compare (map target_seen ks) (target_seen t)
  seen-insert [] t = refl
  seen-insert (k ∷ ks) t =
      by (order t k) (seen-insert ks t)
      ∙ ap (λ o. match_ordering o (target_seen t ∷ target_seen k ∷ map target_seen ks) (target_seen k ∷ map target_seen ks) (target_seen k ∷ insert_key compare (map target_seen ks) (target_seen t))) (same t k)
    where
      by : (o : Ordering) → map target_seen (insert_key order ks t) ≡ insert_key compare (map target_seen ks) (target_seen t) →
          map target_seen (match_ordering o (t ∷ k ∷ ks) (k ∷ ks) (k ∷ insert_key order ks t))
          ≡ match_ordering o (target_seen t ∷ target_seen k ∷ map target_seen ks) (target_seen k ∷ map target_seen ks) (target_seen k ∷ insert_key compare (map target_seen ks) (target_seen t))
      by Less rest = refl
      by Equal rest = refl
      by Greater rest = ap (λ ts. target_seen k ∷ ts) rest

  pub seen-has : (ks : List TargetRead) (t : TargetRead) → list_any (λ k. is_eq (order t k)) ks ≡ has (map target_seen ks) (target_seen t)
  seen-has [] t = refl
  seen-has (k ∷ ks) t = ap₂ (λ o b. is_eq o || b) (same t k) (seen-has ks t)
