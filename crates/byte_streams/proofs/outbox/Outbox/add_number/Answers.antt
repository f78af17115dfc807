-- The decimal of a number below a thousand is its one digit, its two or its three.
use Rattle.std.proofs.Common.{◌++◌, ◌∙◌, ap, sym}
use Rattle.byte_streams.proofs.Digits.{one_digit, two_digits, three_digits}
use Rattle.byte_streams.proofs.outbox.Outbox.add_number.Goals as goal

pub returns-then-number-lt10-clause-text : goal.returns-then-number-lt10-clause-text
returns-then-number-lt10-clause-text c =
    let digits = one_digit c.args.number c.if-number-lt10.true in
    c.add.ensures ∙ ap (λ t. c.args.self.now ++ t) (rw c.digit.ensures (sym digits))

pub returns-then-number-lt100-clause-text : goal.returns-then-number-lt100-clause-text
returns-then-number-lt100-clause-text c =
    let digits = two_digits c.args.number c.if-number-lt10.false c.if-number-lt100.true in
    c.add-then-number-lt100.ensures ∙ ap (λ t. c.args.self.now ++ t) (rw (c.digit-then-number-lt100.ensures, c.digit-then-number-lt100-2.ensures) (sym digits))

pub returns-then-number-lt1000-clause-text : goal.returns-then-number-lt1000-clause-text
returns-then-number-lt1000-clause-text c =
    let digits = three_digits c.args.number c.if-number-lt100.false c.if-number-lt1000.true in
    c.add-then-number-lt1000.ensures ∙ ap (λ t. c.args.self.now ++ t) (rw (c.digit-then-number-lt1000.ensures, c.digit-then-number-lt1000-2.ensures, c.digit-then-number-lt1000-3.ensures) (sym digits))
