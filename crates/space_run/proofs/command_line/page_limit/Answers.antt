use Rattle.std.proofs.Common.{◌≡◌, length, IsTrue, arith, rules}
use Rattle.space_run.proofs.WordsLemmas.{word_found, replay_alone, replay_pages}
use Rattle.space_run.proofs.command_line.page_limit.Goals as goal

pub returns-then-len-eq1 : goal.returns-then-len-eq1
returns-then-len-eq1 c =
    let one : length c.args.words.now.items ≡ 1 = search rules in
    let first : IsTrue c.is_word.result = search rules in
    replay_alone c.args.words.now.items one (c.is_word.ensures.0 first)

pub returns : goal.returns
returns c =
    let three : length c.args.words.now.items ≡ 3 = search rules in
    let first : IsTrue c.is_word.result = search rules in
    let second : IsTrue c.is_word-else-len-ne3.result = search rules in
    let third = word_found c.args.words.now.items 2 (omega arith) in
    replay_pages c.args.words.now.items third.0 c.in_ok-pages.pages three (c.is_word.ensures.0 first) (c.is_word-else-len-ne3.ensures.0 second) third.1
    (c.in_ok-pages.ensures third.0 third.1) (omega arith) (omega arith)
