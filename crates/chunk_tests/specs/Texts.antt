-- The files of the bundle, as they are to be.
use Rattle.std.specs.Prelude.{ℕ, List, ◌++◌, codes}

abbrev pub the_chunk : List ℕ
the_chunk =
    codes "__webpack_chunk__(4, [\n"
    ++ codes "[7, 0, [12], function (module, exports, __webpack_r) {\n"
    ++ codes "/*m \"src/view.js\" 12q15 3*/\n"
    ++ codes "exports.n = __webpack_r(12).n;\n"
    ++ codes "}]\n"
    ++ codes "]);\n"

-- the hash of the chunk file
abbrev pub the_hash : List ℕ
the_hash = codes "124a4a26"

-- the text of the entry file behind the runtime
abbrev pub the_entry : List ℕ
the_entry =
    codes "__webpack_start__({ g: [[3], [7, 4]], c: [[4, \"124a4a26\"]] }, [\n"
    ++ codes "[3, 1, [12], function* (__webpack_r) {\n"
    ++ codes "\"use strict\";\n"
    ++ codes "/*v const see*/\n"
    ++ codes "__webpack_r.c(3, [\"see\", () => see]);\n"
    ++ codes "__webpack_r.n(3, [\"see\", () => see]);\n"
    ++ codes "yield;\n"
    ++ codes "__webpack_r.e(12);\n"
    ++ codes "/*m \"src/index.js\" 6i3 3r19 2d16 1*/\n"
    ++ codes "const see = __webpack_r.w(12).n;\n"
    ++ codes "__webpack_r.d(7);\n"
    ++ codes "}],\n"
    ++ codes "[12, 0, [], function (module) {\n"
    ++ codes "/*j \"src/data.json\" 23*/\n"
    ++ codes "module.exports = JSON.parse('{\"n\": \"it\\'s \\\\\\\\\"}\\r\\n');\n"
    ++ codes "}]\n"
    ++ codes "]);\n"
