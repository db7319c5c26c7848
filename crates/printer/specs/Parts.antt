-- Parts of the model's productions that are functions of their own in the code. The model does not rest on these. Assumes nothing: these are definitions.
use Rattle.std.specs.Prelude.{Bool, false, List, [], ℕ, eqb}
use Rattle.printer.specs.Says.{U, too_deep, Says, refused, choose}
use Rattle.printer.specs.Letters.{'R'}
use Rattle.printer.specs.Model as g
use Rattle.printer.specs.Model.{Deep}

module _ (s : List ℕ) where
  -- an integer, by the letter of its type
  unfoldable pub integer_at : Says U
  integer_at = g.by_tag s tt [] (g.integer s)

  -- what needs a level where none is left
  unfoldable pub no_level : Says U
  no_level = g.by_tag s tt [] (λ c i j. refused tt too_deep i)

  module _ (p : g.Level) where
    -- a constant in braces, behind its tag; but a reference to a string is the string
    unfoldable pub lit_by : ℕ → Bool → Deep U
    lit_by tag value f b = choose (eqb tag 'R') (g.ref_const s p value f b) (g.braced_by s p tag value f b)

    -- a type by its path
    unfoldable pub named : Deep U
    named f b = g.by_tag s tt [] (λ c i j. (p.path false f b).run i)

    -- a type that is no basic one
    unfoldable pub typed : Deep U
    typed f b = g.by_tag s tt (g.type_tags s p f b) (λ c i j. (p.path false f b).run i)
