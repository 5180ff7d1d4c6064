use Rattle.std.proofs.Common.{ap, ap₂, sym, ◌∙◌, option_map, string_bytes}
use Rattle.dbus_names.specs.Texts.{behind}
use Rattle.name_patterns.specs.Cuts.{rest_covered}
use Rattle.name_patterns.specs.Patterns.{Pattern, covers}
use Rattle.name_patterns.proofs.PatternCuts.{covered}
use Rattle.name_patterns.proofs.Pattern.covers.Goals as goal

pub returns-in-Some : goal.returns-in-Some
returns-in-Some c =
    c.is_covered.ensures
    ∙ ap (rest_covered c.self.inside.exact) (ap (option_map (λ rest. rest.now)) (sym c.in-Some.is) ∙ c.behind.ensures ∙ ap₂ behind c.as_bytes.ensures.value c.as_bytes-2.ensures.value)
    ∙ covered (string_bytes c.self.inside.name) c.args.name.now c.self.inside.exact
    ∙ ap (λ (p : Pattern). covers p c.args.name.now) c.self.view_is

pub returns-in-None : goal.returns-in-None
returns-in-None c =
    ap (rest_covered c.self.inside.exact) (ap (option_map (λ rest. rest.now)) (sym c.in-None.is) ∙ c.behind.ensures ∙ ap₂ behind c.as_bytes.ensures.value c.as_bytes-2.ensures.value)
    ∙ covered (string_bytes c.self.inside.name) c.args.name.now c.self.inside.exact
    ∙ ap (λ (p : Pattern). covers p c.args.name.now) c.self.view_is
