use Rattle.std.proofs.Common.{◌∙◌, refl}
use Rattle.restrictions.proofs.AdmitLaws.{word_chars, text_is}
use Rattle.restrictions.proofs.admit.enumeration_text.Goals as goal

pub returns-then-is_word : goal.returns-then-is_word
returns-then-is_word c = word_chars _ refl ∙ text_is c.args.name.now _ _ _ c.if-is_word.ensures refl refl

pub returns-then-is_word-2 : goal.returns-then-is_word-2
returns-then-is_word-2 c = word_chars _ refl ∙ text_is c.args.name.now _ _ _ c.if-is_word.ensures c.if-is_word-2.ensures refl

pub returns-then-is_word-3 : goal.returns-then-is_word-3
returns-then-is_word-3 c =
    word_chars _ refl ∙ text_is c.args.name.now _ _ _ c.if-is_word.ensures c.if-is_word-2.ensures c.if-is_word-3.ensures
