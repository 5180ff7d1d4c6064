-- What a parse of words comes to.
use Rattle.std.proofs.Common.{◌≡◌, ◌∙◌, ◌&&◌, Bool, true, false, IsTrue, ◌↔◌, List, [], ◌∷◌, Option, None, Result, Ok, Err, IfOk, ap, refl, sym, inl, inr, subst}
use Rattle.std.proofs.lemmas.Bool.{true≢false, false≢true}
use Rattle.std.proofs.lemmas.Result.{IfOk-weaker}
use Rattle.clap.specs.Words.{App, Row, Text, HasKind, HasMatchesOf, FailsBy, Kinds, fault_of, found_of, is_simple, is_simple_and_free, kind_of, matches_of, rows_of}
use Rattle.clap.specs.declared.error.Error.{Error}
use Rattle.clap.specs.declared.error.kind.ErrorKind.TheVariants.{OutOfMemory}
use Rattle.clap.specs.declared.parser.matches.ArgMatches.{ArgMatches}
use Rattle.tool_words.specs.Tools.{Parses, taken_by, unless_faulty}

-- ---- what a parse gives

left_of : (a b : Bool) → a && b ≡ true → a ≡ true
left_of true b both = refl
left_of false b both = both

-- what the parse of a simple command gives
pub parsed : (plain : App) (words : List Text) (command : App) (parse : Result ArgMatches Error) → command ≡ plain
    → is_simple_and_free plain ≡ true
    → (is_simple_and_free command ≡ true → FailsBy (fault_of command words) parse)
    → IfOk parse (HasMatchesOf command words) → Parses plain words parse
parsed plain words command parse is simple fails finds =
    let same : is_simple_and_free command ≡ true = ap is_simple_and_free is ∙ simple in
    record {
      fails = subst (λ (a : App). FailsBy (fault_of a words) parse) is (fails same);
      finds = IfOk-weaker parse _ _ (λ m h. (h (left_of (is_simple command) _ same)).0 ∙ ap (λ (a : App). matches_of a words) is) finds;
    }

none_found : (kinds : Kinds) (found : Option (List Text)) (e : Error) → HasKind kinds e → (kind_of e ≡ OutOfMemory → ⊥) → None ≡ unless_faulty kinds found
none_found [] found e (inl memory) other = absurd (other memory)
none_found [] found e (inr among) other = absurd among
none_found (kind ∷ kinds) found e h other = refl

-- if a parse fails for another cause than memory, the command doesn't take the words
pub not_taken : (command : App) (found : List Row → Option (List Text)) (words : List Text) (e : Error) (is_memory : Bool) → Parses command words (Err e) → IsTrue is_memory ↔ (kind_of e ≡ OutOfMemory)
    → is_memory ≡ false → None ≡ taken_by command found words
not_taken command found words e true parse means is = absurd (true≢false is)
not_taken command found words e false parse means is = none_found _ _ e parse.fails (λ memory. false≢true (means.1 memory))

-- if a parse doesn't fail, the command takes the words, and each is in its place
pub is_taken : (command : App) (found : List Row → Option (List Text)) (words : List Text) (m : ArgMatches) → Parses command words (Ok m)
    → found (rows_of (found_of m)) ≡ taken_by command found words
is_taken command found words m parse = ap found parse.finds
    ∙ ap (λ (kinds : Kinds). unless_faulty kinds (found (matches_of command words))) (sym parse.fails)
