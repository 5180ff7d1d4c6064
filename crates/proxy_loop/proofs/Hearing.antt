-- Listening, block by block.
use Rattle.std.proofs.Common.{ℕ, zero, suc, ◌≡◌, ◌+◌, ◌≤◌, ◌<◌, Bool, true, false, ◌&&◌, map, take, length, List, [], ◌∷◌, ◌++◌, Some, refl, ap, ap₂, ◌∙◌, sym, subst, arith, slice_get, slice_index_or}
use Rattle.link_traits.specs.Journals.{Journal, accepts_by, listens}
use Rattle.link_traits.specs.Views.{NetView, Adds}
use Rattle.link_traits.specs.Entries.{Entry, listened as Listened, ready as Ready, accepted as Accepted, connected as Connected, read as Read, finished as Finished, wrote as Wrote, not_ready as NotReady, failed as Failed, refused as Refused, shut as Shut}
use Rattle.policy_args.specs.declared.line.Block.{Block}
use Rattle.proxy_loop.specs.Kinds.{all_are}
use Rattle.proxy_loop.specs.Listening.{is_listened, listeners_of, numbered_from, path_at, Heard}
use Rattle.proxy_loop.specs.Tables.{Table}
use Rattle.proxy_loop.specs.Servers.{touches, Serves, GoesOn}
use Rattle.proxy_loop.proofs.Tabled.{there_is}
use Rattle.proxy_loop.proofs.TurnLaws.{serves_quiet}

pub heard_none : (blocks : List Block) (net : NetView) → Heard blocks 0 net net
unfolding all_are listeners_of
heard_none blocks net = record { told = λ now e. (now, e, [], refl, refl, none (listens now) blocks, omega arith); counts = λ c. omega arith }
  where
    none : (n : ℕ) (xs : List Block) → [] ≡ numbered_from n (map path_at (take 0 xs))
    none n [] = refl
    none n (x ∷ xs) = refl

numbered_more : (n : ℕ) (paths : List (List ℕ)) (path : List ℕ) → numbered_from n (paths ++ path ∷ []) ≡ numbered_from n paths ++ (n + length paths, path) ∷ []
numbered_more n [] path = let e : n ≡ n + 0 = omega arith in ap (λ (k : ℕ). (k, path) ∷ []) e
numbered_more n (first ∷ paths) path =
    let e : (n + 1) + length paths ≡ n + suc (length paths) = omega arith in
    ap (λ (l : List (ℕ × List ℕ)). (n, first) ∷ l) (numbered_more (n + 1) paths path ∙ ap (λ (k : ℕ). numbered_from (n + 1) paths ++ (k, path) ∷ []) e)

so_many : (xs : List Block) (k : ℕ) → k ≤ length xs → length (map path_at (take k xs)) ≡ k
so_many [] zero h = refl
so_many [] (suc k) h = absurd (omega (arith, h))
so_many (x ∷ xs) zero h = refl
so_many (x ∷ xs) (suc k) h = ap suc (so_many xs k (omega (arith, h)))

paths_more : (xs : List Block) (k : ℕ) (b : Block) → slice_get xs k ≡ Some b → map path_at (take (suc k) xs) ≡ map path_at (take k xs) ++ path_at b ∷ []
paths_more [] k b e = cc
paths_more (x ∷ xs) zero b e = let same : x ≡ b = cc in rw same (nothing xs)
  where
    nothing : (ys : List Block) → path_at b ∷ map path_at (take 0 ys) ≡ path_at b ∷ []
    nothing [] = refl
    nothing (y ∷ ys) = refl
paths_more (x ∷ xs) (suc k) b e = ap (λ (l : List (List ℕ)). path_at x ∷ l) (paths_more xs k b e)

pub heard_more : (blocks : List Block) (k : ℕ) (block : Block) (listener : ℕ) (path : List ℕ) (v0 v1 v2 : NetView) → k < length blocks → block ≡ slice_index_or blocks k block →
    path ≡ path_at block → Heard blocks k v0 v1 → Adds v1 v2 (Listened listener path ∷ []) → ((before : Journal) → v1.journal ≡ Some before → listener ≡ listens before) →
    Heard blocks (k + 1) v0 v2
unfolding all_are listeners_of
heard_more blocks k block listener path v0 v1 v2 room is same h adds numbered = record {
  told = λ now e.
      let a = adds.told now e in
      let x = h.told a.0 a.1 in
      let one : k + 1 ≡ suc k = omega arith in
      let n : listener ≡ listens x.0 + k = numbered a.0 a.1 ∙ x.6 in
      let paths : map path_at (take (suc k) blocks) ≡ map path_at (take k blocks) ++ path_at block ∷ [] = paths_more blocks k block (there_is blocks k block room is) in
      let many : length (map path_at (take k blocks)) ≡ k = so_many blocks k (omega (arith, room)) in
      let count : listens a.0 ≡ listens x.0 + k = x.6 in
      let total : listens a.0 + 1 ≡ listens x.0 + (k + 1) = omega (arith, count) in (
        x.0,
        x.1,
        Listened listener path ∷ x.2,
        a.2 ∙ ap (λ (j : Journal). Listened listener path ∷ j) x.3,
        x.4,
        ap (λ (l : List (ℕ × List ℕ)). l ++ (listener, path) ∷ []) x.5
            ∙ ap₂ (λ (m : ℕ) (p : List ℕ). numbered_from (listens x.0) (map path_at (take k blocks)) ++ (m, p) ∷ []) (n ∙ ap (λ (m : ℕ). listens x.0 + m) (sym many)) same
            ∙ sym (numbered_more (listens x.0) (map path_at (take k blocks)) (path_at block))
            ∙ ap (λ (ps : List (List ℕ)). numbered_from (listens x.0) ps) (sym paths)
            ∙ ap (λ (m : ℕ). numbered_from (listens x.0) (map path_at (take m blocks))) (sym one),
        ap listens a.2 ∙ total,
      );
  counts = λ c. let x : v0.counts c ≤ v1.counts c = h.counts c in let y : v1.counts c ≤ v2.counts c = adds.counts c in omega arith;
}

pub heard_all : (blocks : List Block) (k : ℕ) (v0 v1 : NetView) → k ≤ length blocks → length blocks ≤ k → Heard blocks k v0 v1 → Heard blocks (length blocks) v0 v1
heard_all blocks k v0 v1 a b h = let same : k ≡ length blocks = omega (arith, a, b) in subst (λ (n : ℕ). Heard blocks n v0 v1) same h

-- listening speaks of no session
listened_quiet : (entry : Entry) → is_listened entry ≡ true → ((n : ℕ) → touches n entry ≡ false) × (accepts_by entry ≡ 0)
listened_quiet (Listened listener path) h = (λ n. refl, refl)
listened_quiet (Ready answer) h = cc
listened_quiet (Accepted listener session) h = cc
listened_quiet (Connected session path) h = cc
listened_quiet (Read link bytes) h = cc
listened_quiet (Finished link) h = cc
listened_quiet (Wrote link bytes) h = cc
listened_quiet (NotReady call) h = cc
listened_quiet (Failed call) h = cc
listened_quiet (Refused call) h = cc
listened_quiet (Shut link) h = cc

and_first : (x y : Bool) → x && y ≡ true → x ≡ true
and_first true y h = refl
and_first false y h = cc

and_second : (x y : Bool) → x && y ≡ true → y ≡ true
and_second true y h = h
and_second false y h = cc

heard_serves : (blocks : List Block) (table : Table) (added was : Journal) → all_are is_listened added ≡ true → Serves blocks table was → Serves blocks table (added ++ was)
unfolding all_are
heard_serves blocks table [] was a s = s
heard_serves blocks table (entry ∷ added) was a s =
    let q = listened_quiet entry (and_first (is_listened entry) (all_are is_listened added) a) in
    serves_quiet blocks table entry (added ++ was) q.0 q.1 (heard_serves blocks table added was (and_second (is_listened entry) (all_are is_listened added) a) s)

pub heard_on : (blocks : List Block) (table : Table) (count : ℕ) (before after : NetView) → Heard blocks count before after → GoesOn blocks table table before after
heard_on blocks table count before after h = record {
  each = λ now e. let x = h.told now e in
      (x.0, x.1, x.2, x.3, λ s. subst (λ (j : Journal). Serves blocks table j) (sym x.3) (heard_serves blocks table x.2 x.0 x.4 s));
}
