use Rattle.std.proofs.Common.{◌≡◌, ◌∷◌, ◌∙◌, sym, ap, chars}
use Rattle.std.proofs.lemmas.Str.{chars_past_char}
use Rattle.reading.proofs.char_cursor.CharCursor.next.Goals as goal

pub returns : goal.returns
returns c =
    let same = c.as_str-self-inside.ensures in
    let is : c.self.inside.text.now ≡ c.chars-chars.result.rest.now = sym c.chars-chars.ensures.rest in
    sym c.self.view_is ∙ chars_past_char c.self.inside.text.now c.next.new.self.rest.now c.in_ok-first.first c.self.invariant (is ∙ c.in_ok-first.ensures.steps.0) ∙ ap (λ t. c.in_ok-first.first ∷ chars t) (sym same)
