-- What stands above a picture. It is this project's own.
use Rattle.std.specs.Prelude.{ℕ, Bool, ◌&&◌, ◌==◌, ◌++◌, List, [], ◌∷◌, drop, length, decimal, slice_get, Option, Some, None, codes, if◌then◌else◌, option_and_then, unwrap_or}
use Rattle.std.specs.Option.{option_or}
use Rattle.std.specs.Str.{is_utf8}
use Rattle.lock_model.specs.Script.Lines.{lines_of}
use Rattle.lock_model.specs.declared.plan.Plan.{Plan}

abbrev pub Text : Type 0
Text = List ℕ

-- without the space that stands first
abbrev pub without_space : Text → Text
without_space [] = []
without_space (b ∷ bs) = if b == 32 then bs else b ∷ bs

-- the text of bytes that are one, as those of a script always are
abbrev pub text_of : Text → Option Text
text_of bytes = if is_utf8 bytes then Some bytes else None

-- the comment of a line that begins with `#`
abbrev pub comment_of : Text → Option Text
comment_of [] = None
comment_of (b ∷ bs) = if b == 35 then text_of (without_space bs) else None

-- the comment of a line and those of the lines right behind it
abbrev pub with_comments : Option Text → List Text → List Text
with_comments None others = []
with_comments (Some text) others = text ∷ others

abbrev pub comments_of : List Text → List Text
comments_of [] = []
comments_of (line ∷ lines) = with_comments (comment_of line) (comments_of lines)

-- the comments of the lines right behind the first one of a script
abbrev pub head_comments : Text → List Text
head_comments bytes = comments_of (drop 1 (lines_of bytes))

-- a full stop stands where a space or nothing is behind it
abbrev pub is_at_stop : ℕ → Text → Bool
is_at_stop b [] = b == 46
is_at_stop b (c ∷ bs) = b == 46 && c == 32

-- up to the first full stop, without that
abbrev pub up_to_stop : Text → Text
up_to_stop [] = []
up_to_stop (b ∷ bs) = if is_at_stop b bs then [] else b ∷ up_to_stop bs

-- the title that the first of these comments gives
abbrev pub comment_title : Text → Option Text
comment_title bytes =
    option_and_then (λ c. text_of (up_to_stop c)) (slice_get (head_comments bytes) 0)

-- where nobody gave a title
abbrev pub plain_title : Plan → Text
plain_title plan =
    codes "A run of " ++ (decimal (length plan.threads)
    ++ (if length plan.threads == 1 then codes " thread" else codes " threads"))

-- the title that was asked for, or else that of the script's first comment, or else the plain one
abbrev pub title_by : Option Text → Text → Text → Text
title_by asked bytes plain = unwrap_or (option_or asked (comment_title bytes)) plain

-- the line below it is the second comment
abbrev pub subtitle_of : Text → Text
subtitle_of bytes = unwrap_or (slice_get (head_comments bytes) 1) []
