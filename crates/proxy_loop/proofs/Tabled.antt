-- The table of sessions, as one of them changes.
use Rattle.std.proofs.Common.{ℕ, zero, suc, nat_eq, ◌≡◌, ◌<◌, Bool, true, false, cond, List, [], ◌∷◌, length, Option, Some, None, if◌then◌else◌, refl, ap, ◌∙◌, sym, subst, arith, slice_get, slice_index_or}
use Rattle.std.specs.Global.{Box}
use Rattle.std.specs.Option.{option_map}
use Rattle.link_traits.specs.Views.{NetView, SinkView}
use Rattle.link_traits.specs.declared.links.Link.{Link}
use Rattle.policy_args.specs.declared.line.Block.{Block}
use Rattle.proxy_loop.specs.declared.serving.Running.{Running}
use Rattle.proxy_loop.specs.Runs.{is_over}
use Rattle.proxy_loop.specs.Tables.{At, Table, Sets, unless_over}
use Rattle.proxy_loop.specs.Turns.{IsServed, LinkDid}

pub get_there : {X : Type 0} (xs : List X) (k : ℕ) (d : X) → k < length xs → slice_get xs k ≡ Some (slice_index_or xs k d)
get_there [] k d h = absurd (omega (arith, h))
get_there (x ∷ xs) zero d h = refl
get_there (x ∷ xs) (suc k) d h = get_there xs k d (omega (arith, h))

pub there_is : {X : Type 0} (xs : List X) (k : ℕ) (x : X) → k < length xs → x ≡ slice_index_or xs k x → slice_get xs k ≡ Some x
there_is xs k x h e = get_there xs k x h ∙ ap (λ y. Some y) (sym e)

cond_twice : {X : Type 0} (b : Bool) (x y z : X) → cond b x (cond b y z) ≡ cond b x z
cond_twice true x y z = refl
cond_twice false x y z = refl

-- the session was served and is held on, or is over and isn't held any more
pub sets_held : (n : ℕ) (now : Running) (old new : At) → is_over now ≡ false → ((k : ℕ) → new k ≡ cond (nat_eq n k) (Some now) (old k)) → Sets n (unless_over now) old new
sets_held n now old new over h = record { each = λ k. h k ∙ ap (λ (b : Bool). cond (nat_eq n k) (if b then None else Some now) (old k)) (sym over) }

pub sets_over : (n : ℕ) (now : Running) (old mid new : At) → is_over now ≡ true → ((k : ℕ) → mid k ≡ cond (nat_eq n k) (Some now) (old k)) →
    ((k : ℕ) → new k ≡ cond (nat_eq n k) None (mid k)) → Sets n (unless_over now) old new
sets_over n now old mid new over h w = record {
  each = λ k. w k ∙ ap (λ (o : Option Running). cond (nat_eq n k) None o) (h k) ∙ cond_twice (nat_eq n k) None (Some now) (old k)
      ∙ ap (λ (b : Bool). cond (nat_eq n k) (if b then None else Some now) (old k)) (sym over);
}

pub link_did : (blocks : List Block) (link : Link) (old new : Table) (running now : Running) (before after : NetView) (first last : SinkView) →
    old.at link.session ≡ Some running → IsServed blocks link.side running now before after first last →
    Sets link.session (unless_over now) old.at new.at → new.accepted ≡ old.accepted →
    LinkDid blocks link (old.at link.session) old new before after first last
link_did blocks link old new running now before after first last at served sets accepted =
    subst (λ (o : Option Running). LinkDid blocks link o old new before after first last) (sym at)
    (record { now = now; served = served; sets = sets; accepted = accepted })

-- what is seen of a map of sessions, as one of them changes
pub seen_set : (b : Bool) (x : Box Running) (o : Option (Box Running)) →
    option_map (λ (y : Box Running). y.value) (cond b (Some x) o) ≡ cond b (Some x.value) (option_map (λ (y : Box Running). y.value) o)
seen_set true x o = refl
seen_set false x o = refl

pub seen_none : (b : Bool) (o : Option (Box Running)) →
    option_map (λ (y : Box Running). y.value) (cond b None o) ≡ cond b None (option_map (λ (y : Box Running). y.value) o)
seen_none true o = refl
seen_none false o = refl
