use Rattle.std.proofs.Common.{◌≡◌, true, false, ◌∙◌, sym}
use Rattle.restrictions.specs.declared.parts.RestrictionFault.TheVariants.{BadBase, EmptyRestriction, BadBound, BadLength}
use Rattle.restrictions.specs.Building.{bounds_of, lengths_of, has_bad_bound, has_bad_length, is_base, is_without_parts}
use Rattle.restrictions.proofs.BuildLaws.{later_faults}
use Rattle.restrictions.proofs.build.shape.Goals as goal

pub returns : goal.returns
returns c =
    let p = c.args.parts.now in
    let based : is_base p.base ≡ true = sym c.is_base.ensures ∙ c.if-not-is_base.false in
    let some : is_without_parts p ≡ false = sym c.is_without_parts.ensures ∙ c.if-is_without_parts.false in
    c.limits.ensures
    ∙ later_faults (is_base p.base) (is_without_parts p) (has_bad_bound p) (has_bad_length p) BadBase EmptyRestriction BadBound BadLength (bounds_of p, lengths_of p) based some
