-- Each event without parts is read as its node, which is put behind the others.
use Rattle.std.proofs.Common.{refl, ◌∙◌, ap}
use Rattle.te_terms.specs.declared.code.Node.TheVariants as nodes
use Rattle.te_reader.proofs.BuiltLemmas.{leaf_built}
use Rattle.te_reader.proofs.LeafSteps.{always_read, send_read, never_read, throw_read, fresh_read, recv_read}
use Rattle.te_reader.proofs.node.read_one.Goals as goal

pub returns-then-take_word-clause-event : goal.returns-then-take_word-clause-event
returns-then-take_word-clause-event c =
    leaf_built c.put.result _ c.args.code.now c.put.new.code (nodes.Always c.in_ok-value.value) c.args.names.now c.args.cursor.now c.read_expression.new.cursor refl c.put.ensures.puts
    (always_read c.args.names.now c.args.cursor.now.tokens _ _ _ c.if-take_word.ensures.0 c.in_ok-value.ensures.0)
    (c.in_ok-value.ensures.1 ∙ c.if-take_word.ensures.1)

pub returns-then-take_word-2-clause-event : goal.returns-then-take_word-2-clause-event
returns-then-take_word-2-clause-event c =
    let one = c.if-take_word.ensures.1 in
    leaf_built c.put-then-take_word-2.result _ c.args.code.now c.put-then-take_word-2.new.code (nodes.Send c.in_ok-channel.channel c.in_ok-value-2.value) c.args.names.now
    c.args.cursor.now c.read_expression-then-take_word-2.new.cursor refl c.put-then-take_word-2.ensures.puts
    (send_read c.args.names.now c.args.cursor.now.tokens c.if-take_word.ensures.0 _ _ _ _ _ (rw one at c.if-take_word-2.ensures.0) c.in_ok-channel.ensures.0 c.in_ok-value-2.ensures.0)
    (c.in_ok-value-2.ensures.1 ∙ c.in_ok-channel.ensures.1 ∙ c.if-take_word-2.ensures.1 ∙ ap (λ s. s.whole) one)

pub returns-then-take_word-3-clause-event : goal.returns-then-take_word-3-clause-event
returns-then-take_word-3-clause-event c =
    let one = c.if-take_word.ensures.1 in
    let two = c.if-take_word-2.ensures.1 ∙ one in
    leaf_built c.put-then-take_word-3.result _ c.args.code.now c.put-then-take_word-3.new.code nodes.Never c.args.names.now
    c.args.cursor.now c.take_word-3.new.self refl c.put-then-take_word-3.ensures.puts
    (never_read c.args.names.now c.args.cursor.now.tokens c.if-take_word.ensures.0 (rw one at c.if-take_word-2.ensures.0) _ (rw two at c.if-take_word-3.ensures.0))
    (c.if-take_word-3.ensures.1 ∙ ap (λ s. s.whole) two)

pub returns-then-take_word-4-clause-event : goal.returns-then-take_word-4-clause-event
returns-then-take_word-4-clause-event c =
    let one = c.if-take_word.ensures.1 in
    let two = c.if-take_word-2.ensures.1 ∙ one in
    let three = c.if-take_word-3.ensures.1 ∙ two in
    leaf_built c.put-then-take_word-4.result _ c.args.code.now c.put-then-take_word-4.new.code (nodes.Throw c.in_ok-value-3.value) c.args.names.now
    c.args.cursor.now c.read_expression-then-take_word-4.new.cursor refl c.put-then-take_word-4.ensures.puts
    (throw_read c.args.names.now c.args.cursor.now.tokens c.if-take_word.ensures.0 (rw one at c.if-take_word-2.ensures.0) (rw two at c.if-take_word-3.ensures.0) _ _ _
    (rw three at c.if-take_word-4.ensures.0) c.in_ok-value-3.ensures.0)
    (c.in_ok-value-3.ensures.1 ∙ c.if-take_word-4.ensures.1 ∙ ap (λ s. s.whole) three)

pub returns-then-take_word-5-clause-event : goal.returns-then-take_word-5-clause-event
returns-then-take_word-5-clause-event c =
    let one = c.if-take_word.ensures.1 in
    let two = c.if-take_word-2.ensures.1 ∙ one in
    let three = c.if-take_word-3.ensures.1 ∙ two in
    let four = c.if-take_word-4.ensures.1 ∙ three in
    leaf_built c.put-then-take_word-5.result _ c.args.code.now c.put-then-take_word-5.new.code nodes.Fresh c.args.names.now
    c.args.cursor.now c.take_word-5.new.self refl c.put-then-take_word-5.ensures.puts
    (fresh_read c.args.names.now c.args.cursor.now.tokens c.if-take_word.ensures.0 (rw one at c.if-take_word-2.ensures.0) (rw two at c.if-take_word-3.ensures.0)
    (rw three at c.if-take_word-4.ensures.0) _ (rw four at c.if-take_word-5.ensures.0))
    (c.if-take_word-5.ensures.1 ∙ ap (λ s. s.whole) four)

pub returns-clause-event : goal.returns-clause-event
returns-clause-event c =
    let one = c.if-take_word.ensures.1 in
    let two = c.if-take_word-2.ensures.1 ∙ one in
    let three = c.if-take_word-3.ensures.1 ∙ two in
    let four = c.if-take_word-4.ensures.1 ∙ three in
    let five = c.if-take_word-5.ensures.1 ∙ four in
    leaf_built c.put-2.result _ c.args.code.now c.put-2.new.code (nodes.Recv c.in_ok-channel-2.channel) c.args.names.now
    c.args.cursor.now c.read_primitive-2.new.cursor refl c.put-2.ensures.puts
    (recv_read c.args.names.now c.args.cursor.now.tokens c.if-take_word.ensures.0 (rw one at c.if-take_word-2.ensures.0) (rw two at c.if-take_word-3.ensures.0)
    (rw three at c.if-take_word-4.ensures.0) _ _ _ (rw four at c.if-take_word-5.ensures.0) (rw five at c.if-not-take_word.ensures.0) c.in_ok-channel-2.ensures.0)
    (c.in_ok-channel-2.ensures.1 ∙ c.if-not-take_word.ensures.1 ∙ ap (λ s. s.whole) five)
