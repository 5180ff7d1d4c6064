-- The entries of a name, tested one after the other by their numbers.
use Rattle.std.proofs.Common.{◌≡◌, ℕ, Bool, true, false, cond, List, [], ◌∷◌, Option, Some, None, refl, ap, ◌∙◌}
use Rattle.std.specs.Prelude.{◌||◌, find}
use Rattle.std.specs.List.{list_any}
use Rattle.dbus_header.specs.Message.{Message, interface, member, path}
use Rattle.policy_args.specs.declared.entry.Grant.{Grant}
use Rattle.policy_args.specs.Policy.{Policy}
use Rattle.policy_view.specs.Properties.{PropertyRequest}
use Rattle.policy_view.specs.Verdicts.{entry_passes, lets_pass, on_request, on_ruled_call, rules_calls}
use Rattle.policy_view.specs.declared.Verdict.{Verdict}
use Rattle.policy_view.specs.declared.Verdict.TheVariants.{Pass}
use Rattle.verdicts.specs.Entries.{first_of, judged_from, lowest_with, unruled}
use Rattle.verdicts.specs.declared.entries.Lowest.{Lowest}

-- the entry's rule lets the call pass
abbrev allows : Message → Option PropertyRequest → Grant → Bool
allows m request = lets_pass (path m) (interface m) (member m) request

-- the first number, if there is one
abbrev first_in : List ℕ → Option ℕ
first_in [] = None
first_in (n ∷ ns) = Some n

-- the verdict by the numbers of the entries from here on, and the lowest ones of those before
abbrev by_numbers : Policy → Message → Option PropertyRequest → List ℕ → Lowest → Verdict
by_numbers policy m request ns lowest =
    cond (list_any (entry_passes policy (allows m request)) ns) Pass (unruled m (first_of lowest.any (first_in ns)) (first_of lowest.ruled (find (entry_passes policy rules_calls) ns)))

none-behind : (a : Option ℕ) → a ≡ first_of a None
none-behind None = refl
none-behind (Some n) = refl

first-stays : (a b : Option ℕ) (n : ℕ) → first_of (first_of a (Some n)) b ≡ first_of a (Some n)
first-stays None b n = refl
first-stays (Some m) b n = refl

ruled-stays : (ruled : Bool) (a b : Option ℕ) (n : ℕ) → first_of (cond ruled (first_of a (Some n)) a) b ≡ first_of a (cond ruled (Some n) b)
ruled-stays true None b n = refl
ruled-stays true (Some m) b n = refl
ruled-stays false a b n = refl

from-numbers : (policy : Policy) (m : Message) (request : Option PropertyRequest) (ns : List ℕ) (lowest : Lowest) → judged_from policy m request ns lowest ≡ by_numbers policy m request ns lowest
from-numbers policy m request [] lowest =
    ap (λ a. unruled m a lowest.ruled) (none-behind lowest.any) ∙ ap (unruled m (first_of lowest.any None)) (none-behind lowest.ruled)
from-numbers policy m request (n ∷ ns) lowest = by (entry_passes policy (allows m request) n) (from-numbers policy m request ns (lowest_with policy n lowest))
  where
    by : (allowed : Bool) → judged_from policy m request ns (lowest_with policy n lowest) ≡ by_numbers policy m request ns (lowest_with policy n lowest) →
        cond allowed Pass (judged_from policy m request ns (lowest_with policy n lowest))
        ≡ cond (allowed || list_any (entry_passes policy (allows m request)) ns) Pass (unruled m (first_of lowest.any (Some n)) (first_of lowest.ruled (cond (entry_passes policy rules_calls n) (Some n) (find (entry_passes policy rules_calls) ns))))
    by true later = refl
    by false later =
        later
        ∙ ap (λ a. cond (list_any (entry_passes policy (allows m request)) ns) Pass (unruled m a (first_of (lowest_with policy n lowest).ruled (find (entry_passes policy rules_calls) ns))))
        (first-stays lowest.any (first_in ns) n)
        ∙ ap (λ a. cond (list_any (entry_passes policy (allows m request)) ns) Pass (unruled m (first_of lowest.any (Some n)) a))
        (ruled-stays (entry_passes policy rules_calls n) lowest.ruled (find (entry_passes policy rules_calls) ns) n)

refused-row : (m : Message) (call : Option ℕ) (numbers : List ℕ) → unruled m (first_in numbers) call ≡ on_ruled_call m call numbers
refused-row m (Some n) numbers = refl
refused-row m None [] = refl
refused-row m None (n ∷ ns) = refl

-- from the first number on
pub from-first : (policy : Policy) (m : Message) (request : Option PropertyRequest) (ns numbers : List ℕ) → ns ≡ numbers →
    judged_from policy m request ns (record { any = None; ruled = None }) ≡ on_request policy m request numbers
from-first policy m request ns numbers same =
    from-numbers policy m request ns (record { any = None; ruled = None })
    ∙ ap (cond (list_any (entry_passes policy (allows m request)) ns) Pass) (refused-row m (find (entry_passes policy rules_calls) ns) ns)
    ∙ ap (on_request policy m request) same
