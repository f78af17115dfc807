-- A reply is read again from its text, and from the line of its call.
use Rattle.std.proofs.Common.{◌≡◌, ℕ, ◌^◌, ◌<◌, ◌==◌, Bool, true, false, cond, List, [], ◌∷◌, ◌++◌, drop, refl, sym, ap, ◌∙◌, arith, append_assoc, codes}
use Rattle.std.specs.Prelude.{decimal}
use Rattle.std.specs.Char.{is_ascii_digit}
use Rattle.std.specs.List.{list_all}
use Rattle.std.specs.Str.{bytes_eq}
use Rattle.std.specs.Option.{option_map_or}
use Rattle.std.proofs.lemmas.Bool.{and_from}
use Rattle.std.proofs.lemmas.Bool.Decides.{nat_tests}
use Rattle.std.proofs.lemmas.Fmt.{decimal_injective}
use Rattle.std.proofs.lemmas.List.Folds.{list_all-append}
use Rattle.word_bits.specs.declared.reply.Errno.TheVariants.{Fault}
use Rattle.word_bits.specs.RecWord.{value_of}
use Rattle.task_script.specs.Tokens.{number}
use Rattle.task_script.specs.Texts.{call_text}
use Rattle.task_script.proofs.Decimals.{number-decimal, digits-decimal}
use Rattle.task_script.proofs.Splitting.{list_all-weaker}
use Rattle.task_script.proofs.Inner.{BeginsWithDigit, decimal_begins, decimal_inner, call_inner}
use Rattle.mm_report.specs.Text.{reply_text, event_line}
use Rattle.mm_report.specs.Telling.{LineTellsCall}
use Rattle.mm_report.specs.Types.{CallWords, Errno, BadF, NoMem, Exist, Inval, MFile, Reply, Good, Num, Refused, MapErr, AccErr, Busy, Intr, Sent}
use Rattle.mm_report.proofs.LineTexts.{is_not, no_equals, reply_in_line, same_front}

begins_with_digit : List ℕ → Bool
begins_with_digit [] = false
begins_with_digit (b ∷ bs) = is_ascii_digit b

-- the reply that a text without a number is
fixed : List ℕ → Reply
fixed text =
    cond (bytes_eq text (codes "ok")) Good
    (cond (bytes_eq text (codes "EBADF")) (Refused BadF)
    (cond (bytes_eq text (codes "ENOMEM")) (Refused NoMem)
    (cond (bytes_eq text (codes "EEXIST")) (Refused Exist)
    (cond (bytes_eq text (codes "EINVAL")) (Refused Inval)
    (cond (bytes_eq text (codes "EMFILE")) (Refused MFile)
    (cond (bytes_eq text (codes "EFAULT")) (Refused Fault)
    (cond (bytes_eq text (codes "maperr")) MapErr
    (cond (bytes_eq text (codes "accerr")) AccErr
    (cond (bytes_eq text (codes "EINTR")) Intr Sent)))))))))

begins_busy : List ℕ → Bool
begins_busy [] = false
begins_busy (b ∷ bs) = b == 98

-- the reply that a text is
reply_in : List ℕ → Reply
reply_in text =
    cond (begins_with_digit text) (Num (option_map_or (λ n. n) (number text) 0))
    (cond (begins_busy text) (Busy (option_map_or (λ n. n) (number (drop 5 text)) 0)) (fixed text))

digit_first : (bs : List ℕ) → BeginsWithDigit bs → begins_with_digit bs ≡ true
unfolding begins_with_digit
digit_first [] begins = absurd begins
digit_first (b ∷ bs) begins = begins

number_read : (n : ℕ) → n < 2 ^ 22 → option_map_or (λ m. m) (number (decimal n)) 0 ≡ n
number_read n small = rw (number-decimal n (omega arith)) refl

refused_read : (e : Errno) → reply_in (reply_text (Refused e)) ≡ Refused e
unfolding begins_with_digit begins_busy fixed reply_in
refused_read BadF = refl
refused_read NoMem = refl
refused_read Exist = refl
refused_read Inval = refl
refused_read MFile = refl
refused_read Fault = refl

reply_read : (reply : Reply) → value_of reply < 2 ^ 22 → reply_in (reply_text reply) ≡ reply
unfolding begins_with_digit begins_busy fixed reply_in
reply_read Good small = refl
reply_read (Num n) small = rw (digit_first (decimal n) (decimal_begins n), number_read n small) refl
reply_read (Refused e) small = refused_read e
reply_read MapErr small = refl
reply_read AccErr small = refl
reply_read (Busy word) small = ap Busy (number_read word small)
reply_read Intr small = refl
reply_read Sent small = refl

-- the text of a reply determines it
text_tells_reply : (reply other : Reply) → value_of reply < 2 ^ 22 → value_of other < 2 ^ 22 → reply_text reply ≡ reply_text other → reply ≡ other
text_tells_reply reply other small small' same = sym (reply_read reply small) ∙ ap reply_in same ∙ reply_read other small'

-- what stands in front of the equals sign
front_of : (task number : ℕ) → CallWords → List ℕ
front_of task number w = decimal task ++ codes "." ++ decimal number ++ codes " " ++ call_text w ++ codes " "

both : (xs ys : List ℕ) → list_all (is_not 61) xs ≡ true → list_all (is_not 61) ys ≡ true → list_all (is_not 61) (xs ++ ys) ≡ true
both xs ys one two = list_all-append (is_not 61) xs ys ∙ and_from (list_all (is_not 61) xs) (list_all (is_not 61) ys) one two

front_without : (task number : ℕ) (w : CallWords) → list_all (is_not 61) (front_of task number w) ≡ true
unfolding front_of
front_without task number w =
    let a = decimal task in
    let b = a ++ codes "." in
    let c = b ++ decimal number in
    let d = c ++ codes " " in
    let e = d ++ call_text w in
    both e (codes " ") (both d (call_text w) (both c (codes " ") (both b (decimal number) (both a (codes ".") (no_equals a (decimal_inner task)) refl) (no_equals (decimal number) (decimal_inner number))) refl) (no_equals (call_text w) (call_inner w))) refl

line_split : (task number : ℕ) (w : CallWords) (reply : Reply) → event_line task number w reply ≡ front_of task number w ++ 61 ∷ (32 ∷ (reply_text reply ++ 10 ∷ []))
unfolding front_of
line_split task number w reply =
    let e = decimal task ++ codes "." ++ decimal number ++ codes " " ++ call_text w in
    append_assoc (e ++ codes " = ") (reply_text reply) (10 ∷ []) ∙ append_assoc e (codes " = ") (reply_text reply ++ 10 ∷ [])
    ∙ sym (append_assoc e (codes " ") (61 ∷ (32 ∷ (reply_text reply ++ 10 ∷ []))))

line_tells_reply :
    (task number task' number' : ℕ) (w w' : CallWords) (reply reply' : Reply) → value_of reply < 2 ^ 22 → value_of reply' < 2 ^ 22 → event_line task number w reply ≡ event_line task' number' w' reply' → reply ≡ reply'
line_tells_reply task number task' number' w w' reply reply' small small' same =
    let cut = same_front 61 (front_of task number w) (front_of task' number' w') (32 ∷ (reply_text reply ++ 10 ∷ [])) (32 ∷ (reply_text reply' ++ 10 ∷ [])) (front_without task number w) (front_without task' number' w') (sym (line_split task number w reply) ∙ same ∙ line_split task' number' w' reply') in
    let behind : reply_text reply ++ 10 ∷ [] ≡ reply_text reply' ++ 10 ∷ [] = ap (drop 1) cut.1 in
    let told = same_front 10 (reply_text reply) (reply_text reply') [] [] (reply_in_line reply) (reply_in_line reply') behind in
    text_tells_reply reply reply' small small' told.0

-- a number has digits alone
without : (byte n : ℕ) → (byte < 48) → n < 2 ^ 32 → list_all (is_not byte) (decimal n) ≡ true
without byte n low small = list_all-weaker is_ascii_digit (is_not byte) (λ b digit. other b digit) (decimal n) (digits-decimal n small)
  where
    other : (b : ℕ) → is_ascii_digit b ≡ true → is_not byte b ≡ true
    other b digit = grind (arith, nat_tests)

-- the task and the number in front
parts_split : (a n c r : List ℕ) → a ++ codes "." ++ n ++ codes " " ++ c ++ codes " = " ++ r ++ codes "\n" ≡ a ++ 46 ∷ (n ++ 32 ∷ (c ++ codes " = " ++ r ++ codes "\n"))
parts_split a n c r = simp append_assoc

pub line_tells_call : LineTellsCall
line_tells_call task number task' number' w w' reply reply' t n t' n' small small' same =
    let behind : CallWords → Reply → List ℕ = λ v q. call_text v ++ codes " = " ++ reply_text q ++ codes "\n" in
    let split = sym (parts_split (decimal task) (decimal number) (call_text w) (reply_text reply)) ∙ same ∙ parts_split (decimal task') (decimal number') (call_text w') (reply_text reply') in
    let first = same_front 46 (decimal task) (decimal task') (decimal number ++ 32 ∷ behind w reply) (decimal number' ++ 32 ∷ behind w' reply') (without 46 task (omega arith) t) (without 46 task' (omega arith) t') split in
    let second = same_front 32 (decimal number) (decimal number') (behind w reply) (behind w' reply') (without 32 number (omega arith) n) (without 32 number' (omega arith) n') first.1 in (
      decimal_injective task task' (omega arith) (omega arith) first.0,
      decimal_injective number number' (omega arith) (omega arith) second.0,
      line_tells_reply task number task' number' w w' reply reply' small small' same,
    )
