-- The result of reading words, unless memory runs out.
use Rattle.std.specs.Prelude.{◌≡◌, ℕ, Result, Ok, Err}
use Rattle.call_rules.specs.declared.BadRule.{BadRule as RuleRefusal}
use Rattle.call_rules.specs.declared.BadRule.TheVariants.{Form, Memory as NoRoom}
use Rattle.policy_args.specs.declared.BadWord.{BadWord}
use Rattle.policy_args.specs.declared.WordKind.{WordKind}
use Rattle.policy_args.specs.declared.WordKind.TheVariants.{BadRule}
use Rattle.policy_args.specs.declared.refusals.LineRefusal.{LineRefusal}
use Rattle.policy_args.specs.declared.refusals.LineRefusal.TheVariants.{Bad, Memory}
use Rattle.policy_args.specs.declared.refusals.WordRefusal.{WordRefusal}
use Rattle.policy_args.specs.declared.refusals.WordRefusal.TheVariants.{Bad as BadKind, Memory as NoMemory}

abbrev pub Fails : {Y : Type 0} → LineRefusal → Result Y BadWord → Type 0
Fails Memory read = Unit {0}
Fails (Bad word) read = read ≡ Err word

-- Ok as the definition says, by a view of the value; or Bad with the definition's bad word
abbrev pub Gives : {X Y : Type 0} → (X → Y) → Result X LineRefusal → Result Y BadWord → Type 0
Gives view (Ok x) read = read ≡ Ok (view x)
Gives view (Err e) read = Fails e read

abbrev pub StepFails : {Y : Type 0} → WordRefusal → Result Y WordKind → Type 0
StepFails NoMemory read = Unit {0}
StepFails (BadKind kind) read = read ≡ Err kind

-- for one word
abbrev pub StepGives : {X Y : Type 0} → (X → Y) → Result X WordRefusal → Result Y WordKind → Type 0
StepGives view (Ok x) read = read ≡ Ok (view x)
StepGives view (Err e) read = StepFails e read

-- the refusal of a word, given the refusal of its rule
abbrev pub refusal_of_rule : RuleRefusal → WordRefusal
refusal_of_rule Form = BadKind BadRule
refusal_of_rule NoRoom = NoMemory

-- the refusal of a word at its index
abbrev pub refusal_at : ℕ → WordRefusal → LineRefusal
refusal_at index NoMemory = Memory
refusal_at index (BadKind kind) = Bad (record { index = index; kind = kind })
