-- What the code's streams give, in terms of their models.
use Rattle.std.proofs.Common.{ℕ, ◌≡◌, ◌+◌, refl, ap, ◌∙◌, sym, subst, arith}
use Rattle.sasl_watch.specs.Watching.{Watch}
use Rattle.sasl_watch.specs.declared.NextLine.{NextLine}
use Rattle.sasl_watch.specs.declared.NextLine.TheVariants.{Nul, Line, Begin, Done, Incomplete, Bad}
use Rattle.proxy_core.specs.Streams.{StreamView, InLines, counted, GaveLine, phase_of, left_in}
use Rattle.proxy_core.specs.declared.stream.Content.{Content}
use Rattle.proxy_core.specs.declared.stream.Content.TheVariants as of

-- ---- lines

-- what is no line isn't counted
pub none_counted : {A : Type 0} (next : NextLine) (line : A → NextLine) → ((x : A) → next ≡ line x → ⊥) → ((x : _) → (y : A) × (Line x ≡ line y)) → counted next ≡ 0
none_counted Nul line other all = refl
none_counted (Line x) line other all = let (y, e) = all x in absurd (other y e)
none_counted (Begin x) line other all = refl
none_counted Done line other all = refl
none_counted Incomplete line other all = refl
none_counted (Bad f) line other all = refl

line_gave : (G : Watch → NextLine → Watch → Type 0) (came lines n : ℕ) (old new : Watch) (v : StreamView) (next : NextLine) → record { came = came; phase = InLines old.place old.bad; left = old.left; lines = lines } ≡ v
    → G old next new → counted next ≡ n → GaveLine G v next (record { came = came; phase = InLines new.place new.bad; left = new.left; lines = lines + n })
line_gave G came lines n old new v next same g count =
    subst (λ (x : StreamView). GaveLine G x next (record { came = came; phase = InLines new.place new.bad; left = new.left; lines = lines + n })) same
    (record { place = old.place; told = old.bad; watch = new; before = refl; given = g; is = ap (λ (k : ℕ). record { came = came; phase = InLines new.place new.bad; left = new.left; lines = lines + k }) (sym count) })

pub lines_gave : (G : Watch → NextLine → Watch → Type 0) (came lines n : ℕ) (content : Content) (old new : Watch) (v : StreamView) (next : NextLine) → content ≡ of.Lines old
    → record { came = came; phase = phase_of content; left = left_in content; lines = lines } ≡ v
    → G old next new → counted next ≡ n → GaveLine G v next (record { came = came; phase = InLines new.place new.bad; left = new.left; lines = lines + n })
lines_gave G came lines n content old new v next is same g count =
    line_gave G came lines n old new v next (ap (λ (c : Content). record { came = came; phase = phase_of c; left = left_in c; lines = lines }) (sym is) ∙ same) g count

-- if nothing was counted
pub gave_none : (G : Watch → NextLine → Watch → Type 0) (came lines : ℕ) (new : Watch) (v : StreamView) (next : NextLine) → GaveLine G v next (record { came = came; phase = InLines new.place new.bad; left = new.left; lines = lines + 0 })
    → GaveLine G v next (record { came = came; phase = InLines new.place new.bad; left = new.left; lines = lines })
gave_none G came lines new v next g =
    let same : lines + 0 ≡ lines = omega arith in
    subst (λ (k : ℕ). GaveLine G v next (record { came = came; phase = InLines new.place new.bad; left = new.left; lines = k })) same g
