use Rattle.express_decl.proofs.TurnLaws.{gap_shortens, remark_shortens, words_shorten, semicolons_shorten, parentheses_shorten, names_shorten, bodies_shorten, declarations_shorten}
use Rattle.express_decl.proofs.laws.turns_shorten.Goals as goal

pub returns : goal.returns
returns c = record {
  gap = gap_shortens;
  remark = remark_shortens;
  words = words_shorten;
  semicolons = semicolons_shorten;
  parentheses = parentheses_shorten;
  names = names_shorten;
  bodies = bodies_shorten;
  declarations = declarations_shorten;
}
